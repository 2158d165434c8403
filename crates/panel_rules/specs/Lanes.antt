-- What lies between the tasks of a panel.
use Rattle.std.specs.Prelude.{ℕ, ◌+◌, ◌-◌, ◌≤◌, ◌==◌, List, [], ◌∷◌, length, min, if◌then◌else◌}
use Rattle.tick_units.specs.declared.task.Task.TheVariants.{Poll, Decide}
use Rattle.site_types.specs.declared.site.Site.{Site}
use Rattle.panel_rules.specs.Moments.{Moment, Began, Happened, Turned, Kept, IsRun, IsPanel, HaveAllTurned, TickBlock}
use Rattle.panel_rules.specs.Moments.{moments}
use Rattle.panel_rules.specs.Answers.{asked}
use Rattle.panel_rules.specs.Counts.{answer_count, taken_by_decide, taken_by_hold}

-- how many answers were put in the tick that began last
abbrev pub put_by_poll : Site → ℕ → List Moment → ℕ
put_by_poll site panel [] = 0
put_by_poll site panel (Began ∷ before) = 0
put_by_poll site panel (Happened event ∷ before) = put_by_poll site panel before
put_by_poll site panel (Turned other Poll ∷ before) =
    if other == panel then put_by_poll site panel before + length (asked site panel before) else put_by_poll
    site panel before
put_by_poll site panel (Turned other task ∷ before) = put_by_poll site panel before
put_by_poll site panel (Kept failed ∷ before) = put_by_poll site panel before

-- how many findings
abbrev pub put_by_decide : Site → ℕ → List Moment → ℕ
put_by_decide site panel [] = 0
put_by_decide site panel (Began ∷ before) = 0
put_by_decide site panel (Happened event ∷ before) = put_by_decide site panel before
put_by_decide site panel (Turned other Decide ∷ before) =
    if other == panel then put_by_decide site panel before +
    (min (taken_by_decide site panel before + 32) (answer_count site panel before) - taken_by_decide site
    panel before) else put_by_decide site panel before
put_by_decide site panel (Turned other task ∷ before) = put_by_decide site panel before
put_by_decide site panel (Kept failed ∷ before) = put_by_decide site panel before

-- what lies before Decide, and before Hold
abbrev pub answers_lying : Site → ℕ → List Moment → ℕ
answers_lying site panel before = answer_count site panel before - taken_by_decide site panel before

abbrev pub findings_lying : Site → ℕ → List Moment → ℕ
findings_lying site panel before = taken_by_decide site panel before - taken_by_hold site panel before

-- within a tick a lane holds at most 64 items
abbrev pub LanesHoldFew : Type 0
LanesHoldFew = (site : Site) (panels panel : ℕ) (before : List Moment) → IsPanel panels panel
    → IsRun panels before → (answers_lying site panel before ≤ 64) × (findings_lying site panel before ≤ 64)

-- after a tick it holds only what was put in that tick, which are at most 32
abbrev pub LanesKeepTheirTick : Type 0
LanesKeepTheirTick =
    (site : Site) (panels panel : ℕ) (before : List Moment) → IsPanel panels panel → IsRun panels before
    → HaveAllTurned panels before
    → (answers_lying site panel before ≤ put_by_poll site panel before) × (put_by_poll site panel before ≤ 32)
    × (findings_lying site panel before ≤ put_by_decide site panel before)
    × (put_by_decide site panel before ≤ 32)

-- what was put by the end of a tick, each task has taken by the end of the next
abbrev pub TakenByTheNextTick : Type 0
TakenByTheNextTick =
    (site : Site) (panels panel : ℕ) (tick : TickBlock) (ticks : List TickBlock) → IsPanel panels panel
    → IsRun panels (moments (tick ∷ ticks)) → HaveAllTurned panels (moments (tick ∷ ticks))
    → (answer_count site panel (moments ticks) ≤ taken_by_decide site panel (moments (tick ∷ ticks)))
    × (taken_by_decide site panel (moments ticks) ≤ taken_by_hold site panel (moments (tick ∷ ticks)))
