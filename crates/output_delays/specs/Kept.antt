-- What is kept of overrides.
use Rattle.std.specs.Prelude.{◌≡◌, ℕ, List, [], ◌∷◌, Option, Some, None}
use Rattle.tick_units.specs.declared.tick.Tick.{Tick}
use Rattle.tick_units.specs.Earliest.{IsFalling}
use Rattle.output_delays.specs.declared.overrides.Overrides.{Overrides}
use Rattle.output_delays.specs.Overrides.{last_before}

abbrev pub latest_of : List ℕ → Option Tick
latest_of [] = None
latest_of (tick ∷ ticks) = Some (record { 0 = tick })

-- the latest override before the tick of the latest one
abbrev pub before_latest : List ℕ → Option Tick
before_latest [] = None
before_latest (tick ∷ ticks) = last_before tick ticks

-- the latest two ticks with an override are kept
pub record Keeps (ticks : List ℕ) (overrides : Overrides) : Type 0 where
  pub latest : overrides.latest ≡ latest_of ticks
  pub before : overrides.before ≡ before_latest ticks
  pub falling : IsFalling ticks
