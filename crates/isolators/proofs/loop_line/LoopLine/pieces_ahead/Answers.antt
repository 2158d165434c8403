use Rattle.std.proofs.Common.{sym, ◌∙◌, arith}
use Rattle.isolators.proofs.loop_line.LoopLine.pieces_ahead.Goals as goal

pub returns-then-not-can_pass : goal.returns-then-not-can_pass
returns-then-not-can_pass c plan cable h s =
    let count = c.count-piece-end.ensures.value plan cable h in
    record {
      passed = λ k below. c.loop-piece.invariant plan cable h s k below;
      within = omega arith;
      ends = λ _. sym (c.can_pass.ensures plan cable h s) ∙ c.if-not-can_pass.true;
    }

pub returns : goal.returns
returns c plan cable h s =
    let count = c.count-piece-end.ensures.value plan cable h in
    let again = c.count.ensures.value plan cable h in
    record {
      passed = λ k below. c.loop-piece.invariant plan cable h s k (omega arith);
      within = omega arith;
      ends = λ low. absurd (omega arith);
    }
