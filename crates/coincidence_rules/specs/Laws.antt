-- What findings, each by the answers taken up to its own, tell of a zone: what all the answers together do.
use Rattle.std.specs.Prelude.{◌≡◌, ◌-◌, ◌&&◌, ℕ, Bool, List, Some, slice_get}
use Rattle.std.specs.List.{list_any}
use Rattle.site_types.specs.declared.answer.Answer.{Answer}
use Rattle.site_types.specs.declared.retained.Retained.{Retained}
use Rattle.site_types.specs.declared.site.Site.{Site}
use Rattle.site_types.specs.declared.zone.Zone.{Zone}
use Rattle.site_types.specs.Bits.{has_bit}
use Rattle.site_types.specs.Done.{Done}
use Rattle.site_types.specs.Valid.{IsValid}
use Rattle.coincidence_rules.specs.declared.finding.Finding.{Finding}
use Rattle.coincidence_rules.specs.Alarm.{calls, releases}
use Rattle.coincidence_rules.specs.Confirmed.{confirms}
use Rattle.coincidence_rules.specs.Counted.{is_counted}
use Rattle.coincidence_rules.specs.Findings.{findings_of}
use Rattle.coincidence_rules.specs.InOrder.{AreInOrder}
use Rattle.coincidence_rules.specs.Places.{is_of}

-- some finding at one of these stamps has the zone in a mask of its own
abbrev pub some_finding_tells : (Finding → ℕ) → Zone → (ℕ → Bool) → List Finding → Bool
some_finding_tells mask zone stamps findings =
    list_any (λ f. stamps f.stamp.0 && has_bit (mask f) (zone.number - 1)) findings

-- some answer at one of these stamps passes a test
abbrev pub some_answer_does : (Answer → Bool) → (ℕ → Bool) → List Answer → Bool
some_answer_does test stamps answers = list_any (λ a. stamps a.stamp.0 && test a) answers

-- findings of answers in order tell at some stamps that a zone is confirmed exactly where an answer there confirms it
abbrev pub FindingsTellConfirmed : Type 0
FindingsTellConfirmed =
    (site : Site) (kept : Retained) (done : List Done) (answers : List Answer) (place : ℕ) (zone : Zone)
    (stamps : ℕ → Bool) → IsValid site → slice_get site.zones place ≡ Some zone → AreInOrder answers
    → some_finding_tells (λ f. f.confirmed) zone stamps (findings_of site kept zone.panel done answers)
    ≡ some_answer_does (confirms site kept done answers place) stamps answers

-- findings of answers in order tell at some stamps that a zone is released exactly where an answer there releases it
abbrev pub FindingsTellReleased : Type 0
FindingsTellReleased =
    (site : Site) (kept : Retained) (done : List Done) (answers : List Answer) (place : ℕ) (zone : Zone)
    (stamps : ℕ → Bool) → IsValid site → slice_get site.zones place ≡ Some zone → AreInOrder answers
    → some_finding_tells (λ f. f.released) zone stamps (findings_of site kept zone.panel done answers)
    ≡ some_answer_does (releases site kept done answers place) stamps answers

-- findings of answers tell at some stamps that a zone is called by hand exactly where an answer there calls it
abbrev pub FindingsTellCalls : Type 0
FindingsTellCalls =
    (site : Site) (kept : Retained) (done : List Done) (answers : List Answer) (place : ℕ) (zone : Zone)
    (stamps : ℕ → Bool) → IsValid site → slice_get site.zones place ≡ Some zone
    → some_finding_tells (λ f. f.manual) zone stamps (findings_of site kept zone.panel done answers)
    ≡ some_answer_does (calls site kept done place) stamps answers

-- findings of answers tell at some stamps that an alarm of a point of a zone counts exactly where one there does
abbrev pub FindingsTellCounted : Type 0
FindingsTellCounted =
    (site : Site) (kept : Retained) (done : List Done) (answers : List Answer) (place : ℕ) (zone : Zone)
    (stamps : ℕ → Bool) → IsValid site → slice_get site.zones place ≡ Some zone
    → some_finding_tells (λ f. f.counted) zone stamps (findings_of site kept zone.panel done answers)
    ≡ some_answer_does (λ a. is_counted site kept done a && is_of site place a.point) stamps answers
