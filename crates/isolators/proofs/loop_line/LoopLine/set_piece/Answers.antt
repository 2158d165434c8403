use Rattle.std.proofs.Common.{◌≡◌, length, arith}
use Rattle.isolators.specs.Reach.{with_piece}
use Rattle.isolators.proofs.Reached.{told_piece}
use Rattle.isolators.proofs.loop_line.LoopLine.set_piece.Goals as goal

pub returns : goal.returns
returns c plan cable stands =
    let size : length c.args.self.now.pieces ≡ 256 = omega arith in
    let h = stands.cables in
    c.look.ensures plan (with_piece cable c.args.piece c.args.state)
    (record {
      last = h.last;
      begins = h.begins;
      pieces =
          λ k small. told_piece c.args.self.now.pieces cable c.args.piece k c.args.state size small (h.pieces k small);
    })
