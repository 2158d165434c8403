-- The findings of answers tell of zones and points what the answers themselves do.
use Rattle.std.specs.Prelude.{◌≡◌, ℕ, Bool, List, Some, slice_get}
use Rattle.site_types.specs.declared.answer.Answer.{Answer}
use Rattle.site_types.specs.declared.retained.Retained.{Retained}
use Rattle.site_types.specs.declared.site.Site.{Site}
use Rattle.site_types.specs.declared.zone.Zone.{Zone}
use Rattle.site_types.specs.Done.{Done}
use Rattle.site_types.specs.Valid.{IsValid}
use Rattle.coincidence_rules.specs.Alarm.{is_by_hand, is_in_alarm, is_released}
use Rattle.coincidence_rules.specs.Findings.{findings_of}
use Rattle.coincidence_rules.specs.First.{is_first}
use Rattle.coincidence_rules.specs.InOrder.{AreInOrder}
use Rattle.coincidence_rules.specs.Missing.{is_missing}
use Rattle.panel_conditions.specs.declared.outside.Outside.{Outside}
use Rattle.panel_conditions.specs.Answered.{answered_faults, answered_word}
use Rattle.panel_conditions.specs.Missing.{missing_found}
use Rattle.panel_conditions.specs.Words.{faults_at, word_at}
use Rattle.panel_conditions.specs.Zones.{alarm_found, first_found, hand_found, release_found}

-- the findings of answers in order tell whether a zone is in alarm as the answers themselves do
abbrev pub FindingsTellAlarm : Type 0
FindingsTellAlarm =
    (site : Site) (kept : Retained) (done : List Done) (answers : List Answer) (place tick : ℕ) (zone : Zone)
    → IsValid site → slice_get site.zones place ≡ Some zone → AreInOrder answers
    → alarm_found site done (findings_of site kept zone.panel done answers) place tick
    ≡ is_in_alarm site kept done answers place tick

-- the findings of answers tell whether a zone is in alarm by a manual call point as the answers themselves do
abbrev pub FindingsTellHand : Type 0
FindingsTellHand =
    (site : Site) (kept : Retained) (done : List Done) (answers : List Answer) (place tick : ℕ) (zone : Zone)
    → IsValid site → slice_get site.zones place ≡ Some zone
    → hand_found site done (findings_of site kept zone.panel done answers) place tick
    ≡ is_by_hand site kept done answers place tick

-- the findings of answers in order tell whether outputs may act for a zone as the answers themselves do
abbrev pub FindingsTellReleased : Type 0
FindingsTellReleased =
    (site : Site) (kept : Retained) (done : List Done) (answers : List Answer) (place tick : ℕ) (zone : Zone)
    → IsValid site → slice_get site.zones place ≡ Some zone → AreInOrder answers
    → release_found site done (findings_of site kept zone.panel done answers) place tick
    ≡ is_released site kept done answers place tick

-- the findings of answers in order tell whether a zone is in first state as the answers themselves do
abbrev pub FindingsTellFirst : Type 0
FindingsTellFirst =
    (site : Site) (kept : Retained) (done : List Done) (answers : List Answer) (place tick : ℕ) (zone : Zone)
    → IsValid site → slice_get site.zones place ≡ Some zone → AreInOrder answers
    → first_found site done (findings_of site kept zone.panel done answers) place tick
    ≡ is_first site kept done answers place tick

-- the findings of answers tell whether a point is missing as the answers themselves do
abbrev pub FindingsTellMissing : Type 0
FindingsTellMissing =
    (site : Site) (kept : Retained) (panel place : ℕ) (done : List Done) (answers : List Answer)
    → missing_found (findings_of site kept panel done answers) place ≡ is_missing answers place

-- the word of a panel goes by the answers whose findings the panel took
abbrev pub AnswersTellWord : Type 0
AnswersTellWord =
    (site : Site) (kept : Retained) (panel tick : ℕ) (done : List Done) (answers : List Answer) (fault : Bool)
    → IsValid site → AreInOrder answers
    → word_at site panel done (findings_of site kept panel done answers) tick fault
    ≡ answered_word site kept panel done answers tick fault

-- the faults of a panel go by the answers whose findings the panel took
abbrev pub AnswersTellFaults : Type 0
AnswersTellFaults =
    (site : Site) (kept : Retained) (panel tick : ℕ) (done : List Done) (answers : List Answer) (outside :
    Outside)
    → faults_at site kept panel done (findings_of site kept panel done answers) tick outside
    ≡ answered_faults site kept panel done answers tick outside
