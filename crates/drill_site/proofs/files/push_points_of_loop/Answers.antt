use Rattle.std.proofs.Common.{◌∙◌}
use Rattle.drill_site.specs.Files.{point_line}
use Rattle.drill_site.proofs.Each.{begins, grows}
use Rattle.drill_site.proofs.files.push_points_of_loop.Goals as goal

pub loop-before-init : goal.loop-before-init
loop-before-init c = begins _ (point_line c.args.panel c.args.line)

pub loop-before-preserved : goal.loop-before-preserved
loop-before-preserved c =
    let pushed = c.in_ok-push_line.ensures in
    let is = c.as_str.ensures.value ∙ c.point_line.ensures in
    grows (c.args.text.now.items) _ _ _ (point_line c.args.panel c.args.line) c.loop-before.before c.loop-before.invariant pushed is
