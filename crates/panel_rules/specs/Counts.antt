-- How many answers each task of a panel has taken.
use Rattle.std.specs.Prelude.{ℕ, ◌+◌, ◌==◌, List, [], ◌∷◌, length, min, if◌then◌else◌}
use Rattle.tick_units.specs.declared.task.Task.TheVariants.{Decide, Hold}
use Rattle.site_types.specs.declared.site.Site.{Site}
use Rattle.panel_rules.specs.Moments.{Moment, Began, Happened, Turned, Kept}
use Rattle.panel_rules.specs.Answers.{answers}

-- how many were put for Decide
abbrev pub answer_count : Site → ℕ → List Moment → ℕ
answer_count site panel before = length (answers site panel before)

-- how many Decide has taken: in a turn the lesser of 32 and what lies there
abbrev pub taken_by_decide : Site → ℕ → List Moment → ℕ
taken_by_decide site panel [] = 0
taken_by_decide site panel (Began ∷ before) = taken_by_decide site panel before
taken_by_decide site panel (Happened event ∷ before) = taken_by_decide site panel before
taken_by_decide site panel (Turned other Decide ∷ before) =
    if other == panel then min (taken_by_decide site panel before + 32) (answer_count site panel before) else
    taken_by_decide site panel before
taken_by_decide site panel (Turned other task ∷ before) = taken_by_decide site panel before
taken_by_decide site panel (Kept failed ∷ before) = taken_by_decide site panel before

-- how many findings Hold has taken, of which Decide puts one for each answer that it takes
abbrev pub taken_by_hold : Site → ℕ → List Moment → ℕ
taken_by_hold site panel [] = 0
taken_by_hold site panel (Began ∷ before) = taken_by_hold site panel before
taken_by_hold site panel (Happened event ∷ before) = taken_by_hold site panel before
taken_by_hold site panel (Turned other Hold ∷ before) =
    if other == panel then min (taken_by_hold site panel before + 32) (taken_by_decide site panel before) else
    taken_by_hold site panel before
taken_by_hold site panel (Turned other task ∷ before) = taken_by_hold site panel before
taken_by_hold site panel (Kept failed ∷ before) = taken_by_hold site panel before
