-- The zones that a panel shows of its own.
use Rattle.std.specs.Prelude.{ℕ, Bool, List, take, Option, Some, None, slice_get}
use Rattle.tick_units.specs.declared.task.Task.TheVariants.{Hold}
use Rattle.site_types.specs.declared.answer.Answer.{Answer}
use Rattle.site_types.specs.declared.site.Site.{Site}
use Rattle.site_types.specs.declared.zone.Zone.{Zone}
use Rattle.site_types.specs.declared.retained.Retained.{Retained}
use Rattle.site_types.specs.Done.{Done}
use Rattle.coincidence_rules.specs.Alarm.{is_in_alarm, is_by_hand, is_released}
use Rattle.coincidence_rules.specs.First.{is_first}
use Rattle.panel_rules.specs.Moments.{Moment, latest_turn}
use Rattle.panel_rules.specs.Answers.{answers}
use Rattle.panel_rules.specs.Counts.{taken_by_hold}

-- the answers whose findings the panel's Hold has taken
abbrev pub held_answers : Site → ℕ → List Moment → List Answer
held_answers site panel before = take (taken_by_hold site panel before) (answers site panel before)

-- after Hold's latest turn: a zone is in alarm, in alarm by hand, released, in first state, by what Hold has
-- taken and the operations done before the tick of that turn
abbrev pub holds_alarm : Site → Retained → List Done → ℕ → List Moment → ℕ → Bool
holds_alarm site kept done panel before zone =
    is_in_alarm site kept done (held_answers site panel before) zone (latest_turn panel Hold before)

abbrev pub holds_by_hand : Site → Retained → List Done → ℕ → List Moment → ℕ → Bool
holds_by_hand site kept done panel before zone =
    is_by_hand site kept done (held_answers site panel before) zone (latest_turn panel Hold before)

abbrev pub holds_released : Site → Retained → List Done → ℕ → List Moment → ℕ → Bool
holds_released site kept done panel before zone =
    is_released site kept done (held_answers site panel before) zone (latest_turn panel Hold before)

abbrev pub holds_first : Site → Retained → List Done → ℕ → List Moment → ℕ → Bool
holds_first site kept done panel before zone =
    is_first site kept done (held_answers site panel before) zone (latest_turn panel Hold before)

abbrev pub panel_of : Option Zone → ℕ
panel_of None = 0
panel_of (Some z) = z.panel

-- the panel of a zone
abbrev pub panel_of_zone : Site → ℕ → ℕ
panel_of_zone site zone = panel_of (slice_get site.zones zone)
