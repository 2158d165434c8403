-- A panel's word and faults by the answers themselves, where the findings taken are those of these answers.
use Rattle.std.specs.Prelude.{ℕ, Bool, not, List, ◌&&◌}
use Rattle.site_types.specs.declared.site.Site.{Site}
use Rattle.site_types.specs.declared.answer.Answer.{Answer}
use Rattle.site_types.specs.declared.retained.Retained.{Retained}
use Rattle.site_types.specs.declared.fault_set.FaultSet.{FaultSet}
use Rattle.site_types.specs.declared.word.Word.{Word}
use Rattle.site_types.specs.Done.{Done}
use Rattle.coincidence_rules.specs.Places.{zones_where}
use Rattle.coincidence_rules.specs.Alarm.{is_in_alarm, is_by_hand, is_released}
use Rattle.coincidence_rules.specs.First.{is_first}
use Rattle.coincidence_rules.specs.Missing.{is_missing}
use Rattle.panel_conditions.specs.declared.outside.Outside.{Outside}
use Rattle.panel_conditions.specs.Points.{points_where}
use Rattle.panel_conditions.specs.Missing.{is_off}
use Rattle.panel_conditions.specs.Words.{with_missing, word_with}

-- the word at a tick
abbrev pub answered_word : Site → Retained → ℕ → List Done → List Answer → ℕ → Bool → Word
answered_word site kept panel done answers tick fault =
    word_with tick fault
    (record {
      alarm = zones_where site panel (λ zone. is_in_alarm site kept done answers zone tick);
      manual = zones_where site panel (λ zone. is_by_hand site kept done answers zone tick);
      released = zones_where site panel (λ zone. is_released site kept done answers zone tick);
      first = zones_where site panel (λ zone. is_first site kept done answers zone tick);
    })

-- the faults at a tick
abbrev pub answered_faults : Site → Retained → ℕ → List Done → List Answer → ℕ → Outside → FaultSet
answered_faults site kept panel done answers tick outside =
    with_missing
    (points_where site panel (λ place. is_missing answers place && not (is_off site kept done place tick)))
    outside
