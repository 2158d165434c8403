-- What the part that decides tells of an answer, whatever it stands for.
use Rattle.std.specs.Prelude.{◌≡◌, ℕ, Bool, List, [], ◌∷◌, ◌++◌, Option, Some, slice_get, slice_index_or}
use Rattle.tick_units.specs.declared.tick.Tick.{Tick}
use Rattle.site_types.specs.declared.answer.Answer.{Answer}
use Rattle.site_types.specs.declared.point.Point.{Point}
use Rattle.site_types.specs.declared.retained.Retained.{Retained}
use Rattle.site_types.specs.declared.site.Site.{Site}
use Rattle.site_types.specs.declared.zone.Zone.{Zone}
use Rattle.site_types.specs.Done.{Done, floor_before, AreBy}
use Rattle.coincidence_rules.specs.declared.finding.Finding.{Finding}
use Rattle.coincidence_rules.specs.Counted.{is_counted}
use Rattle.coincidence_rules.specs.Findings.{finding_of}
use Rattle.coincidence_rules.specs.Kept.{second_of}
use Rattle.coincidence.specs.declared.partner_finding.PartnerFinding.{PartnerFinding}
use Rattle.coincidence.specs.declared.decide.Decide.{Decide}
use Rattle.coincidence.specs.declared.judgement.Judgement.{Judgement}
use Rattle.coincidence.specs.declared.observation.Observation.{Observation}
use Rattle.coincidence.specs.declared.point_watch.PointWatch.{PointWatch}
use Rattle.coincidence.specs.declared.zone_watch.ZoneWatch.{ZoneWatch}
use Rattle.coincidence.specs.Observations.{Judges, Observes, FindsPartner, partner_second_of}
use Rattle.coincidence.specs.Stands.{DecidesFor, Fits, IsOwnPartner, WatchesZone}

-- the finding is that of the answer taken last
abbrev pub FindsLast : Decide → Answer → Finding → Type 0
FindsLast decide answer finding =
    (site : Site) (kept : Retained) (panel : ℕ) (done : List Done) (taken : List Answer)
    → DecidesFor site kept panel done (taken ++ answer ∷ []) decide
    → Fits site panel done (taken ++ answer ∷ []) answer
    → finding ≡ finding_of site kept panel done taken answer

-- what is kept of a point and of a zone is that of an answer's point and of the point's zone
pub record AreKeptOf (decide : Decide) (answer : Answer) (point : PointWatch) (zone : ZoneWatch) : Type 0 where
  pub point_is : point ≡ slice_index_or decide.points answer.point point
  pub zone_is : zone ≡ slice_index_or decide.zones.items point.zone zone

-- a judgement of an answer is what the operations done before the answer say of it
abbrev pub TellsJudgement : Decide → Answer → Judgement → Type 0
TellsJudgement decide answer judgement =
    (site : Site) (kept : Retained) (panel : ℕ) (done : List Done) (taken : List Answer)
    → DecidesFor site kept panel done taken decide → Fits site panel done taken answer
    → Judges site kept done answer judgement

-- the finding is that of the answer taken last, where this is said of it
abbrev pub FindsJudged : Decide → Answer → Judgement → Finding → Type 0
FindsJudged decide answer judgement finding =
    (site : Site) (kept : Retained) (panel : ℕ) (done : List Done) (taken : List Answer)
    → DecidesFor site kept panel done (taken ++ answer ∷ []) decide
    → Fits site panel done (taken ++ answer ∷ []) answer → Judges site kept done answer judgement
    → finding ≡ finding_of site kept panel done taken answer

-- an observation is all that is observed of an answer at its point and in the point's zone, where a judgement is what
-- the operations done before the answer say of it
abbrev pub ObservesJudged : Decide → Answer → Judgement → Observation → Type 0
ObservesJudged decide answer judgement seen =
    (site : Site) (kept : Retained) (panel : ℕ) (done : List Done) (taken : List Answer)
    → DecidesFor site kept panel done taken decide → Fits site panel done taken answer
    → Judges site kept done answer judgement
    → (point : Point) (zone : Zone) → slice_get site.points answer.point ≡ Some point
    → slice_get site.zones point.zone ≡ Some zone → Observes site kept done taken answer point zone seen

-- whether the answer counts
abbrev pub TellsCounted : Decide → Answer → Bool → Type 0
TellsCounted decide answer counted =
    (site : Site) (kept : Retained) (panel : ℕ) (done : List Done) (taken : List Answer)
    → DecidesFor site kept panel done taken decide → Fits site panel done taken answer
    → counted ≡ is_counted site kept done answer

-- the last floor of the zone before a tick, which isn't earlier than the operations done
abbrev pub TellsFloor : Decide → ℕ → ℕ → ℕ → Type 0
TellsFloor decide zone tick floor =
    (site : Site) (kept : Retained) (panel : ℕ) (done : List Done) (taken : List Answer)
    → DecidesFor site kept panel done taken decide → AreBy tick done
    → (plan : Zone) → slice_get site.zones zone ≡ Some plan → plan.panel ≡ panel
    → floor ≡ floor_before site zone tick done

-- the last floor of a zone of which this is kept
abbrev pub TellsFloorOf : Decide → ZoneWatch → ℕ → ℕ → Type 0
TellsFloorOf decide watch tick floor =
    (zone : ℕ) → watch ≡ slice_index_or decide.zones.items zone watch → TellsFloor decide zone tick floor

-- the latest answer of another point of the zone, with its floor before this one, that makes a pair with it
abbrev pub TellsSecond : Decide → ℕ → ℕ → Answer → Option Tick → Type 0
TellsSecond decide zone floor answer second =
    (site : Site) (kept : Retained) (panel : ℕ) (done : List Done) (taken : List Answer)
    → DecidesFor site kept panel done taken decide → AreBy answer.stamp.0 done
    → (plan : Zone) → slice_get site.zones zone ≡ Some plan → plan.panel ≡ panel
    → floor ≡ floor_before site zone answer.stamp.0 done
    → second ≡ second_of site kept done taken zone plan.rule answer

-- the latest answer of a point of a zone's partner, if there is one, that makes a pair with this one
abbrev pub TellsPartnerSecond : Decide → Option ℕ → Answer → Option Tick → Type 0
TellsPartnerSecond decide partner answer second =
    (site : Site) (kept : Retained) (panel : ℕ) (done : List Done) (taken : List Answer)
    → DecidesFor site kept panel done taken decide → AreBy answer.stamp.0 done
    → IsOwnPartner site panel partner
    → second ≡ partner_second_of site kept done taken partner answer

-- what an answer of which this is observed means for the partner of its zone
abbrev pub TellsPartnerFinding : Decide → ZoneWatch → Observation → PartnerFinding → Type 0
TellsPartnerFinding decide watch seen found =
    (site : Site) (kept : Retained) (panel : ℕ) (done : List Done) (taken : List Answer)
    → DecidesFor site kept panel done taken decide
    → (place : ℕ) (plan : Zone) → slice_get site.zones place ≡ Some plan → plan.panel ≡ panel
    → WatchesZone site kept done taken place plan watch → FindsPartner site plan plan.partner seen found
