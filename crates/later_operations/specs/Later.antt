-- What is done in a tick or later, and what stays the same with it.
use Rattle.std.specs.Prelude.{◌≡◌, ◌≤◌, ◌++◌, ℕ, List, [], ◌∷◌}
use Rattle.site_types.specs.Done.{Done}
use Rattle.panel_rules.specs.Moments.{Moment, tick_of}

-- each was done in this tick or later
abbrev pub AreDoneFrom : ℕ → List Done → Type 0
AreDoneFrom tick [] = Unit {0}
AreDoneFrom tick (d ∷ ds) = (tick ≤ d.tick) × AreDoneFrom tick ds

-- what the operations done tell of a run up to a tick is the same with those that are done in that tick or later
abbrev pub StaysAsMoreIsDone : {X : Type 0} → (List Done → List Moment → X) → Type 0
StaysAsMoreIsDone told =
    (tick : ℕ) (new old : List Done) (moments : List Moment) → AreDoneFrom tick new → tick_of moments ≤ tick
    → told (new ++ old) moments ≡ told old moments
