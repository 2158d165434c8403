-- Which answers of a text nobody may have given, by what a record asks for.
use Rattle.std.specs.Prelude.{◌≡◌, ◌≤◌, ◌<◌, ℕ, ◌+◌, ◌&&◌, ◌||◌, not, nat_le, nat_lt, Bool, false}
use Rattle.std.specs.Prelude.{List, [], ◌∷◌, ◌++◌, map}
use Rattle.std.specs.Prelude.{length, Option, Some, None, slice_index_or, if◌then◌else◌}
use Rattle.std.specs.List.{list_any}
use Rattle.site_types.specs.declared.site.Site.{Site}
use Rattle.access_levels.specs.Levels.{needed_by}
use Rattle.face_text.specs.declared.op_answer.OpAnswer.{OpAnswer}
use Rattle.face_text.specs.declared.step.Step.{Step}
use Rattle.panel_rules.specs.Moments.{Moment}
use Rattle.panel_rules.specs.Operations.{requests}
use Rattle.audit_rules.specs.Answering.{HasUnfounded, was_answered}
use Rattle.audit_rules.specs.ToldDone.{tells_done}
use Rattle.told_operations.specs.Asked.{asked_of}
use Rattle.told_operations.specs.Doing.{asked_numbered}
use Rattle.told_operations.specs.declared.asked_operation.AskedOperation.{AskedOperation}

-- an operation was asked for by the end of a tick, and `done` isn't said against the level of its code
abbrev pub allows : ℕ → OpAnswer → Option AskedOperation → Bool
allows tick answer None = false
allows tick answer (Some asked) =
    nat_le asked.tick.0 tick && not (tells_done answer.reply && nat_lt asked.level (needed_by asked.operation))

-- an answer of a tick, with the steps before it, that nobody may have given
abbrev pub lacks_ground : List AskedOperation → List Step → ℕ → OpAnswer → Bool
lacks_ground asked before tick answer =
    was_answered answer.number before || not (allows tick answer (asked_numbered answer.number asked))

abbrev pub has_groundless : List AskedOperation → List Step → Step → Bool
has_groundless asked before step = list_any (lacks_ground asked before step.tick.0) step.answers.ops

-- the tick of the first of some steps, behind others, that has such an answer
abbrev pub first_groundless : List AskedOperation → List Step → List Step → Option ℕ
first_groundless asked before [] = None
first_groundless asked before (step ∷ steps) =
    if has_groundless asked before step then Some step.tick.0
    else first_groundless asked (before ++ step ∷ []) steps

-- the first tick with an answer that an auditor finds unfounded, if there is one
pub record IsFirstUnfounded (site : Site) (moments : List Moment) (steps : List Step) (first : Option ℕ)
    : Type 0 where
  pub some : (tick : ℕ) → first ≡ Some tick → HasUnfounded (requests site moments) steps tick
  pub least : (tick other : ℕ) → first ≡ Some tick → HasUnfounded (requests site moments) steps other → tick ≤ other
  pub none : first ≡ None → (other : ℕ) → ¬ HasUnfounded (requests site moments) steps other

-- the ticks of steps rise
abbrev pub DoRise : ℕ → List Step → Type 0
DoRise tick [] = Unit {0}
DoRise tick (step ∷ steps) = (tick < step.tick.0) × DoRise step.tick.0 steps

-- of steps whose ticks rise it is that of the first such answer
abbrev pub FirstIsFound : Type 0
FirstIsFound =
    (site : Site) (moments : List Moment) (steps : List Step) → DoRise 0 steps
    → IsFirstUnfounded site moments steps (first_groundless (map asked_of (requests site moments)) [] steps)

-- marks by number, from 1 on, tell which operations the steps before answered
abbrev pub TellsAnswered : List Step → List Bool → Type 0
TellsAnswered before answered =
    (k : ℕ) → k < length answered → slice_index_or answered k false ≡ was_answered (k + 1) before
