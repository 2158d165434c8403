use Rattle.panel_settings.specs.Settings.{setting_from}
use Rattle.plain_history.proofs.Later.{in_force_more}
use Rattle.plain_history.proofs.settings.Settings.in_force.Goals as goal

pub loop-one-preserved : goal.loop-one-preserved
loop-one-preserved c =
    in_force_more c.args.self.now.done.now c.loop-one.one-index _ c.loop-one-test.true c.args.self.now.site.now c.args.self.now.kept.now (setting_from c.args.setting)
    c.args.tick.0 c.loop-one.value c.value_after-value.result c.loop-one.invariant c.value_after-value.ensures
