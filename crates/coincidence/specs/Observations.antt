-- What an answer with those before it means for its zone and the zone's partner, by what is kept: by the operations
-- done before it (Judgement), by all that was noted up to it (Observation), and for the partner (PartnerFinding).
use Rattle.std.specs.Prelude.{◌≡◌, ℕ, Bool, true, false, not, List, Option, Some, None, slice_get, ◌&&◌, ◌||◌, is_some}
use Rattle.tick_units.specs.declared.tick.Tick.{Tick}
use Rattle.site_types.specs.declared.site.Site.{Site}
use Rattle.site_types.specs.declared.point.Point.{Point}
use Rattle.site_types.specs.declared.zone.Zone.{Zone}
use Rattle.site_types.specs.declared.answer.Answer.{Answer}
use Rattle.site_types.specs.declared.rule.Rule.{Rule}
use Rattle.site_types.specs.declared.rule.Rule.TheVariants.{A, B, C}
use Rattle.site_types.specs.declared.retained.Retained.{Retained}
use Rattle.site_types.specs.Done.{Done, floor_before}
use Rattle.coincidence_rules.specs.Counted.{is_counted}
use Rattle.coincidence.specs.declared.judgement.Judgement.{Judgement}
use Rattle.coincidence.specs.declared.partner_finding.PartnerFinding.{PartnerFinding}
use Rattle.coincidence.specs.declared.observation.Observation.{Observation}
use Rattle.coincidence_rules.specs.Kept.{is_long, is_within, run_of, second_of}

-- what is observed suffices for the type of the answer's own zone
abbrev pub own_coincides : Rule → Observation → Bool
own_coincides (A verify within) s = is_long verify s.floor.0 s.stamp.0 s.run
    || is_within within s.stamp.0 s.own_second
own_coincides (B within) s = is_within within s.stamp.0 s.own_second || is_within within s.stamp.0 s.partner_second
own_coincides _ s = true

-- the answer confirms its own zone
abbrev pub own_confirmed : Rule → Observation → Bool
own_confirmed rule s = s.counted && (s.manual || own_coincides rule s)

-- the answer releases its own zone
abbrev pub own_released : Rule → Observation → Bool
own_released C s = s.counted && (s.manual || (is_some s.own_second || is_some s.partner_second))
own_released rule s = own_confirmed rule s

-- the answer confirms the partner of its zone, by the partner's type
abbrev pub partner_confirmed : Rule → Observation → Bool
partner_confirmed (B within) s = s.counted && (not s.manual && is_within within s.stamp.0 s.partner_second)
partner_confirmed _ s = false

-- the answer releases the partner of its zone, by the partner's type
abbrev pub partner_released : Rule → Observation → Bool
partner_released C s = s.counted && is_some s.partner_second
partner_released rule s = partner_confirmed rule s

-- the latest answer of a zone, if there is such a zone, that makes a pair with this one
abbrev pub second_by : Site → Retained → List Done → List Answer → ℕ → Option Zone → Answer → Option Tick
second_by site kept done taken zone None answer = None
second_by site kept done taken zone (Some z) answer = second_of site kept done taken zone z.rule answer

-- the latest answer of the partner, if there is one, that makes a pair with this one
abbrev pub partner_second_of : Site → Retained → List Done → List Answer → Option ℕ → Answer → Option Tick
partner_second_of site kept done taken None answer = None
partner_second_of site kept done taken (Some other) answer =
    second_by site kept done taken other (slice_get site.zones other) answer

-- by the operations done before an answer: whether it counts, and the last floor of its zone
pub record Judges (site : Site) (kept : Retained) (done : List Done) (answer : Answer) (judgement : Judgement) :
    Type 0 where
  pub counted : judgement.counted ≡ is_counted site kept done answer
  pub floor : (point : Point) → slice_get site.points answer.point ≡ Some point
      → judgement.floor.0 ≡ floor_before site point.zone answer.stamp.0 done

-- all by which an answer of a point, in the point's zone, is found to confirm or release a zone
pub record Observes (site : Site) (kept : Retained) (done : List Done) (taken : List Answer) (answer : Answer)
    (point : Point) (zone : Zone) (seen : Observation) : Type 0 where
  pub stamp : seen.stamp ≡ answer.stamp
  pub counted : seen.counted ≡ is_counted site kept done answer
  pub manual : seen.manual ≡ point.manual
  pub run : seen.run ≡ run_of (is_counted site kept done) (λ x. floor_before site point.zone x done)
      answer.point None taken
  pub floor : seen.floor.0 ≡ floor_before site point.zone answer.stamp.0 done
  pub own_second : seen.own_second ≡ second_of site kept done taken point.zone zone.rule answer
  pub partner_second : seen.partner_second ≡ partner_second_of site kept done taken zone.partner answer

-- what an answer means for this zone as the partner
abbrev pub partner_is : Option Zone → Observation → PartnerFinding → Type 0
partner_is None seen found = ⊥
partner_is (Some y) seen found =
    (found.number ≡ y.number) × (found.confirmed ≡ partner_confirmed y.rule seen)
    × (found.released ≡ partner_released y.rule seen)

-- what an answer means for the partner of its zone, if there is one
abbrev pub FindsPartner : Site → Zone → Option ℕ → Observation → PartnerFinding → Type 0
FindsPartner site zone None seen found = (found.number ≡ zone.number) × (found.confirmed ≡ false)
    × (found.released ≡ false)
FindsPartner site zone (Some other) seen found = partner_is (slice_get site.zones other) seen found
