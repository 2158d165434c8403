-- What the answers of a text say was done, the oldest first.
use Rattle.std.specs.Prelude.{◌≡◌, ℕ, zero, suc, List, [], ◌∷◌, map, reverse, Option, Some, None, slice_get}
use Rattle.std.specs.Prelude.{if◌then◌else◌}
use Rattle.std.specs.List.{flat_map}
use Rattle.site_types.specs.declared.site.Site.{Site}
use Rattle.site_types.specs.Done.{Done}
use Rattle.face_text.specs.declared.op_answer.OpAnswer.{OpAnswer}
use Rattle.face_text.specs.declared.step.Step.{Step}
use Rattle.panel_rules.specs.Moments.{Moment}
use Rattle.panel_rules.specs.Operations.{requests}
use Rattle.audit_rules.specs.ToldDone.{done_by_steps, tells_done}
use Rattle.told_operations.specs.Asked.{asked_of}
use Rattle.told_operations.specs.declared.asked_operation.AskedOperation.{AskedOperation}
use Rattle.blocked_points.specs.declared.done_operation.DoneOperation.{DoneOperation}
use Rattle.blocked_points.specs.Operations.{as_done}

-- the operation of a number
abbrev pub asked_numbered : ℕ → List AskedOperation → Option AskedOperation
asked_numbered zero asked = None
asked_numbered (suc place) asked = slice_get asked place

-- what is told by one answer, if anything
abbrev pub told_list : Option DoneOperation → List Done
told_list None = []
told_list (Some told) = as_done told ∷ []

abbrev pub done_as : ℕ → Option AskedOperation → List Done
done_as tick None = []
done_as tick (Some asked) = record { tick = tick; panel = asked.panel; operation = asked.operation } ∷ []

-- what one answer of a tick says was done; a number that no operation has does nothing
abbrev pub done_by_answer : List AskedOperation → ℕ → OpAnswer → List Done
done_by_answer asked tick answer =
    if tells_done answer.reply then done_as tick (asked_numbered answer.number asked) else []

abbrev pub done_by_answers : List AskedOperation → ℕ → List OpAnswer → List Done
done_by_answers asked tick answers = flat_map (done_by_answer asked tick) answers

abbrev pub done_in_step : List AskedOperation → Step → List Done
done_in_step asked step = done_by_answers asked step.tick.0 step.answers.ops

-- all that the steps of a text say was done
abbrev pub done_in_steps : List AskedOperation → List Step → List Done
done_in_steps asked steps = flat_map (done_in_step asked) steps

-- of the operations of a record that is what an auditor takes for done, which has the newest first
abbrev pub DoneIsListed : Type 0
DoneIsListed =
    (site : Site) (moments : List Moment) (steps : List Step)
    → reverse (done_in_steps (map asked_of (requests site moments)) steps)
    ≡ done_by_steps (requests site moments) steps
