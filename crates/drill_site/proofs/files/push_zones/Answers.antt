use Rattle.std.proofs.Common.{◌∙◌}
use Rattle.drill_site.specs.Files.{zone_line}
use Rattle.drill_site.proofs.Each.{begins, grows}
use Rattle.drill_site.proofs.files.push_zones.Goals as goal

pub loop-before-init : goal.loop-before-init
loop-before-init c = begins _ (zone_line c.args.panel)

pub loop-before-preserved : goal.loop-before-preserved
loop-before-preserved c =
    let pushed = c.in_ok-push_line.ensures in
    let is = c.as_str.ensures.value ∙ c.zone_line.ensures in
    grows (c.args.text.now.items) _ _ _ (zone_line c.args.panel) c.loop-before.before c.loop-before.invariant pushed is
