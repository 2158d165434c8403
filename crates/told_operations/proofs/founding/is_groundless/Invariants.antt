use Rattle.std.proofs.Common.{◌≡◌, List, false, take}
use Rattle.std.specs.List.{list_any}
use Rattle.face_text.specs.declared.step.Step.{Step}
use Rattle.told_operations.specs.Founding.{TellsAnswered, lacks_ground}
use Rattle.told_operations.proofs.founding.is_groundless.Given as goal

-- no answer before a place is such a one
abbrev pub invariant-loop-place : goal.invariant-loop-place
invariant-loop-place l =
    (before : List Step) → TellsAnswered before l.answered
    → list_any (lacks_ground l.asked before l.step.tick.0) (take l.place l.answers) ≡ false
