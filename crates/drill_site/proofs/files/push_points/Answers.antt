use Rattle.std.proofs.Common.{refl}
use Rattle.drill_site.specs.Files.{points_of_loop}
use Rattle.drill_site.proofs.Each.{begins, grows}
use Rattle.drill_site.proofs.files.push_points.Goals as goal

pub loop-before-init : goal.loop-before-init
loop-before-init c = begins _ (points_of_loop c.args.panel)

pub loop-before-preserved : goal.loop-before-preserved
loop-before-preserved c = grows (c.args.text.now.items) _ _ _ (points_of_loop c.args.panel) c.loop-before.before c.loop-before.invariant c.in_ok-push_points_of_loop.ensures (refl)
