use Rattle.std.proofs.Common.{◌≡◌, get_or, None, sym, ◌∙◌, ap, arith}
use Rattle.routing_outputs.specs.declared.watched_output.WatchedOutput.{WatchedOutput}
use Rattle.routing_outputs.specs.WatchedOutputs.{is_late, turned, turned_by}
use Rattle.output_lists.proofs.Turning.{has_failed, has_passed, mask_of_turned}
use Rattle.routing_outputs.proofs.routing.turn_outputs.Goals as goal
use Rattle.routing_outputs.proofs.routing.turn_outputs.Goals.{then-is_late, else-is_late}

pub loop-output-preserved : goal.loop-output-preserved
loop-output-preserved c =
    let f = turned_by c.args.now c.args.on in
    let ys = c.loop-output.outputs in
    let i = c.loop-output.output-index in
    let d : WatchedOutput = record { place = 0; since = None } in
    let made : c.turn.result ≡ f (get_or ys i d) = c.turn.ensures ∙ ap (λ b. turned c.args.now b (get_or ys i d)) c.has_bit_32.ensures in
    elim c.if-is_late.branch [
      | then-is_late w ↦ rw w.late-is
          (has_passed (λ output. output.place) f (is_late c.args.now c.args.limit) c.args.outputs.now ys _ i d c.turn.result c.loop-output.late
          w.with_bit_32-late.result (omega arith) c.loop-output.invariant made w.outputs-is (sym c.is_late.ensures ∙ w.if-is_late.true)
          w.with_bit_32-late.type_inv w.with_bit_32-late.ensures.this w.with_bit_32-late.ensures.others)
      | else-is_late w ↦
          has_failed (λ output. output.place) f (is_late c.args.now c.args.limit) c.args.outputs.now ys _ i d c.turn.result c.loop-output.late _
          (omega arith) c.loop-output.invariant made w.outputs-is (sym c.is_late.ensures ∙ w.if-is_late.false) w.late-is
    ]

pub returns-clause-late : goal.returns-clause-late
returns-clause-late c =
    mask_of_turned (λ output. output.place) (turned_by c.args.now c.args.on) (is_late c.args.now c.args.limit) c.args.outputs.now
    c.loop-output.outputs c.loop-output.output-index c.loop-output.late (omega arith) c.loop-output.invariant
