use Rattle.blocked_points.specs.Operations.{done_newest_first}
use Rattle.panel_rules.specs.Moments.{moments}
use Rattle.panel_audit.specs.Broken.{IsDark}
use Rattle.std.proofs.Common.{◌∙◌}
use Rattle.panel_audit.proofs.OutputsNotOn.{scanned}
use Rattle.panel_audit.proofs.dark.dark_output.Goals as goal

pub returns-clause-scans : goal.returns-clause-scans
returns-clause-scans c kept operations timeline ticks numbers dues excused are =
    let site = c.args.site.now in
    scanned c.args.outputs.now (IsDark site kept (done_newest_first operations) timeline (moments ticks)) c.mark_dark.new.marks _
    (c.mark_dark.ensures.size ∙ c.requires.size)
    (λ k low. c.mark_dark.ensures.marks k low kept operations timeline ticks dues excused are) c.lowest_marked.ensures
