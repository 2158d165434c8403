-- What the latest turn of a task made.
use Rattle.std.specs.Prelude.{ℕ, List, [], ◌∷◌, if◌then◌else◌}
use Rattle.tick_units.specs.declared.task.Task.{Task}
use Rattle.panel_rules.specs.Moments.{Moment, Began, Happened, Turned, Kept, is_turn}

-- what the latest turn of a panel's task made of what had befallen before it; before its first turn, what is
-- given
abbrev pub made_latest : {X : Type 0} → X → ℕ → Task → (List Moment → X) → List Moment → X
made_latest none panel task makes [] = none
made_latest none panel task makes (Began ∷ before) = made_latest none panel task makes before
made_latest none panel task makes (Happened event ∷ before) = made_latest none panel task makes before
made_latest none panel task makes (Turned other_panel other ∷ before) =
    if is_turn panel task other_panel other then makes before else made_latest none panel task makes before
made_latest none panel task makes (Kept failed ∷ before) = made_latest none panel task makes before
