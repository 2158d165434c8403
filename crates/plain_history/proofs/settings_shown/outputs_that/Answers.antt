use Rattle.std.proofs.Common.{◌∙◌, false, slice_index_or}
use Rattle.plain_history.proofs.Outputs.{same_outputs}
use Rattle.plain_history.proofs.settings_shown.outputs_that.Goals as goal

pub returns : goal.returns
returns c test same =
    c.outputs_flagged.ensures ∙ same_outputs c.args.site.now c.args.panel (λ place. slice_index_or c.args.flags.now place false) test same
