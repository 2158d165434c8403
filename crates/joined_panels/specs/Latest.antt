-- The latest of the ticks of which something holds, if there is one.
use Rattle.std.specs.Prelude.{ℕ, ◌≤◌, max, Option, Some, None}

abbrev pub IsLatestTick : (ℕ → Type 0) → Option ℕ → Type 0
IsLatestTick Holds None = (tick : ℕ) → Holds tick → ⊥
IsLatestTick Holds (Some latest) = Holds latest × ((tick : ℕ) → Holds tick → tick ≤ latest)

-- the later of two
abbrev pub later_of_ticks : Option ℕ → Option ℕ → Option ℕ
later_of_ticks None other = other
later_of_ticks (Some one) None = Some one
later_of_ticks (Some one) (Some other) = Some (max one other)
