use Rattle.routing_outputs.specs.WatchedOutputs.{is_late, turned_by}
use Rattle.output_lists.proofs.Turning.{HasTurned}
use Rattle.routing_outputs.proofs.routing.turn_outputs.Given as goal

abbrev pub invariant-loop-output : goal.invariant-loop-output
invariant-loop-output l =
    HasTurned (λ output. output.place) (turned_by l.now l.on) (is_late l.now l.limit) l.initial.outputs l.output-index l.outputs l.late
