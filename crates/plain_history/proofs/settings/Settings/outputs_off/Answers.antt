use Rattle.std.proofs.Common.{rules}
use Rattle.site_types.specs.Done.{OutputOff}
use Rattle.panel_rules.specs.Outputs.{on_place, output_numbered, outputs_where}
use Rattle.plain_history.specs.Settings.{is_set}
use Rattle.plain_history.proofs.settings.Settings.outputs_off.Goals as goal

pub returns : goal.returns
unfolding outputs_where
returns c =
    c.numbers_that.ensures
    (λ number. on_place (λ output. is_set c.args.self.now (OutputOff output) c.args.tick.0)
    (output_numbered c.args.self.now.site.now c.args.panel number)) (λ number told low high post. search rules)
