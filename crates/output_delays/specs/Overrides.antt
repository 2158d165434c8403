-- The ticks of overrides, the latest first.
use Rattle.std.specs.Prelude.{ℕ, ◌≤◌, ◌&&◌, Bool, List, [], ◌∷◌, Option, Some, None, if◌then◌else◌, nat_le, nat_lt}
use Rattle.std.specs.List.{AllByRecursion, list_any}
use Rattle.tick_units.specs.declared.tick.Tick.{Tick}

-- an override was done in one of the ticks from the first on, and before this one
abbrev pub is_any_in : ℕ → ℕ → List ℕ → Bool
is_any_in first now ticks = list_any (λ tick. nat_le first tick && nat_lt tick now) ticks

-- no override was done after this tick
abbrev pub AllUpTo : ℕ → List ℕ → Type 0
AllUpTo now ticks = AllByRecursion (λ tick. tick ≤ now) ticks

-- the latest override before a tick
abbrev pub last_before : ℕ → List ℕ → Option Tick
last_before now [] = None
last_before now (tick ∷ ticks) = if nat_lt tick now then Some (record { 0 = tick }) else last_before now ticks
