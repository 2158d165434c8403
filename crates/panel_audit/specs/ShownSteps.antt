-- How far the steps of a text are read.
use Rattle.std.specs.Prelude.{◌≡◌, ℕ, ◌<◌, ◌≤◌, List, length, Some, slice_get}
use Rattle.face_text.specs.declared.step.Step.{Step}

-- the first steps of a text, so many of them, are those of the ticks up to one
pub record ReadsUpTo (steps : List Step) (tick count : ℕ) : Type 0 where
  pub within : count ≤ length steps
  pub read : (place : ℕ) (step : Step) → place < count → slice_get steps place ≡ Some step → step.tick.0 ≤ tick
  pub left : (place : ℕ) (step : Step) → count ≤ place → slice_get steps place ≡ Some step → tick < step.tick.0
