use Rattle.std.proofs.Common.{◌∙◌}
use Rattle.blocked_points.specs.Operations.{done_newest_first}
use Rattle.panel_rules.specs.Moments.{moments}
use Rattle.panel_audit.specs.Broken.{IsBaseless}
use Rattle.panel_audit.proofs.OutputCauses.{still_solved}
use Rattle.panel_audit.proofs.OutputsNotOn.{scanned}
use Rattle.panel_audit.proofs.baseless.baseless_output.Goals as goal

pub returns-clause-solved : goal.returns-clause-solved
returns-clause-solved c solved =
    still_solved c.args.site.now c.args.causes.now c.args.joined.now c.args.faces.now c.hear_each.new.heard (c.hear_each.ensures solved)

pub returns-clause-scans : goal.returns-clause-scans
returns-clause-scans c kept operations timeline ticks free solved numbers stand joined are =
    let site = c.args.site.now in
    scanned c.args.outputs.now (IsBaseless site kept (done_newest_first operations) timeline (moments ticks)) c.mark_baseless.new.marks _
    (c.mark_baseless.ensures.size ∙ c.requires.size)
    (λ k low. c.mark_baseless.ensures.marks k low kept operations timeline ticks c.args.causes.now c.args.joined.now free
    (c.hear_each.ensures solved) stand joined are) c.lowest_marked.ensures
