-- The least of the ticks of which something holds, if there is one.
use Rattle.std.specs.Prelude.{ℕ, ◌≤◌, min, Option, Some, None}

abbrev pub IsLeastTick : (ℕ → Type 0) → Option ℕ → Type 0
IsLeastTick Holds None = (tick : ℕ) → Holds tick → ⊥
IsLeastTick Holds (Some least) = Holds least × ((tick : ℕ) → Holds tick → least ≤ tick)

-- the earlier of two
abbrev pub earlier_of_ticks : Option ℕ → Option ℕ → Option ℕ
earlier_of_ticks None other = other
earlier_of_ticks (Some one) None = Some one
earlier_of_ticks (Some one) (Some other) = Some (min one other)
