use Rattle.std.proofs.Common.{sym, ◌∙◌, ap, arith}
use Rattle.isolators.specs.Reach.{is_passed}
use Rattle.isolators.proofs.loop_line.LoopLine.pieces_behind.Goals as goal

pub loop-piece-init : goal.loop-piece-init
loop-piece-init c plan cable h s piece low high = let count = c.count-piece.ensures.value plan cable h in absurd (omega arith)

pub returns-then-not-can_pass : goal.returns-then-not-can_pass
returns-then-not-can_pass c plan cable h s =
    let count = c.count-piece.ensures.value plan cable h in
    record {
      passed = λ k low high. c.loop-piece.invariant plan cable h s k (omega arith) high;
      within = omega arith;
      ends = λ _. ap (is_passed plan cable) (omega arith) ∙ sym (c.can_pass.ensures plan cable h s) ∙ c.if-not-can_pass.true;
    }
