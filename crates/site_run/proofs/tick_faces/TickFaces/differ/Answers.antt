use Rattle.std.proofs.Common.{arith}
use Rattle.site_run.proofs.SameFaces.{none_differ, same_lists}
use Rattle.site_run.proofs.tick_faces.TickFaces.differ.Goals as goal

pub returns : goal.returns
returns c =
    none_differ c.args.self.now.after.now c.args.self.now.before.now
    (same_lists c.args.self.now.before.now c.args.self.now.after.now c.requires.room
    (λ k less. c.loop-place.invariant.same k (omega (arith, less, c.loop-place-test.false))))
