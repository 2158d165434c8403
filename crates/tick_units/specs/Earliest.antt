-- The ticks of turns, the latest first.
use Rattle.std.specs.Prelude.{ℕ, ◌≤◌, List, [], ◌∷◌, Option, Some, None}
use Rattle.std.specs.List.{AllByRecursion}
use Rattle.tick_units.specs.declared.tick.Tick.{Tick}

-- the earliest of the ticks that follow a tick, the latest first
abbrev pub earliest : ℕ → List ℕ → ℕ
earliest tick [] = tick
earliest tick (before ∷ ticks) = earliest before ticks

-- the earliest of some ticks, the latest first, if there are any
abbrev pub earliest_of : List ℕ → Option Tick
earliest_of [] = None
earliest_of (latest ∷ ticks) = Some (record { 0 = earliest latest ticks })

-- no tick is later than those that stand ahead of it
abbrev pub IsFalling : List ℕ → Type 0
IsFalling [] = Unit {0}
IsFalling (tick ∷ ticks) = AllByRecursion (λ t. t ≤ tick) ticks × IsFalling ticks
