use Rattle.std.proofs.Common.{false, rules, slice_index_or}
use Rattle.panel_rules.specs.Outputs.{on_place, output_numbered, outputs_where}
use Rattle.plain_history.proofs.settings_shown.outputs_flagged.Goals as goal

pub returns : goal.returns
unfolding outputs_where
returns c =
    c.numbers_that.ensures
    (λ number. on_place (λ place. slice_index_or c.args.flags.now place false) (output_numbered c.args.site.now c.args.panel number))
    (λ number told low high post. search rules)
