-- Which answers of a text no record allows.
use Rattle.std.specs.Prelude.{◌≡◌, ℕ, ◌==◌, ◌&&◌, ◌||◌, not, nat_le, nat_lt, Bool, true, false, List, ◌∷◌, ◌++◌}
use Rattle.std.specs.Prelude.{Option, Some, None, slice_get}
use Rattle.std.specs.List.{list_any}
use Rattle.access_levels.specs.Levels.{needed_by}
use Rattle.face_text.specs.declared.op_answer.OpAnswer.{OpAnswer}
use Rattle.face_text.specs.declared.step.Step.{Step}
use Rattle.panel_rules.specs.Operations.{Request}
use Rattle.audit_rules.specs.ToldDone.{request_numbered, tells_done}

-- an operation was asked for by the end of a tick
abbrev pub was_asked_by : ℕ → Option Request → Bool
was_asked_by tick None = false
was_asked_by tick (Some request) = nat_le request.tick tick

-- an operation was asked for with a code that has not the level that the operation needs
abbrev pub is_beyond_level : Option Request → Bool
is_beyond_level None = false
is_beyond_level (Some request) = nat_lt request.level (needed_by request.operation)

-- one of these steps answers the number
abbrev pub was_answered : ℕ → List Step → Bool
was_answered number steps =
    list_any (λ (step : Step). list_any (λ (a : OpAnswer). a.number == number) step.answers.ops) steps

-- an answer that is given in a tick, with the steps before that tick: nobody asked, it was answered before, or it
-- is `done` against the level of its code
abbrev pub is_unfounded : List Request → ℕ → List Step → OpAnswer → Bool
is_unfounded asked tick before answer =
    not (was_asked_by tick (request_numbered answer.number asked))
    || (was_answered answer.number before
    || (tells_done answer.reply && is_beyond_level (request_numbered answer.number asked)))

-- some answer of a tick is unfounded: nobody asked, it was answered before, or it is `done` against the level of its
-- code
pub record HasUnfounded (asked : List Request) (steps : List Step) (tick : ℕ) : Type 0 where
  pub before : List Step
  pub step : Step
  pub after : List Step
  pub splits : steps ≡ before ++ step ∷ after
  pub in_tick : step.tick.0 ≡ tick
  pub place : ℕ
  pub answer : OpAnswer
  pub is : slice_get step.answers.ops place ≡ Some answer
  pub unfounded : is_unfounded asked tick before answer ≡ true
