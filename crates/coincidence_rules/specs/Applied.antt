-- Which operation may come after those done, and what is remembered of a kind of operations.
use Rattle.std.specs.Prelude.{◌≡◌, ◌≢◌, ◌≤◌, ℕ, Bool, true, List, [], ◌∷◌}
use Rattle.tick_units.specs.declared.last_done.LastDone.{LastDone}
use Rattle.tick_units.specs.LastTicks.{last_at}
use Rattle.site_types.specs.declared.operation.Operation.{Operation}
use Rattle.site_types.specs.Done.{Done, Setting, is_on, latest_before, AreBy}

-- no operation on the setting was done in a tick
abbrev pub NoneIn : ℕ → Setting → List Done → Type 0
NoneIn tick setting [] = Unit {0}
NoneIn tick setting (d ∷ ds) = (is_on setting d ≡ true → d.tick ≢ tick) × NoneIn tick setting ds

-- an operation may be done at a panel in a tick after these: ticks count from 1, it is not earlier than any
-- of them, and the only one on its setting in that tick
pub record MayBeDone (panel : ℕ) (done : List Done) (operation : Operation) (tick : ℕ) : Type 0 where
  pub from_one : 1 ≤ tick
  pub since : AreBy tick done
  pub once : (setting : Setting)
      → is_on setting (record { tick = tick; panel = panel; operation = operation }) ≡ true
      → NoneIn tick setting done

-- the latest tick of a kind of operations, at each tick from it on
pub record TellsLast (test : Done → Bool) (done : List Done) (last : LastDone) : Type 0 where
  pub at : (x : ℕ) → last.tick.0 ≤ x → latest_before test x done ≡ last_at x last
  pub by : (x : ℕ) → AreBy x done → last.tick.0 ≤ x
