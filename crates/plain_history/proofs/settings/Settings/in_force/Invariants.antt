use Rattle.std.proofs.Common.{◌≡◌, take}
use Rattle.site_types.specs.Done.{in_force}
use Rattle.plain_history.specs.Histories.{all_done}
use Rattle.panel_settings.specs.Settings.{setting_from}
use Rattle.plain_history.proofs.settings.Settings.in_force.Given as goal

abbrev pub invariant-loop-one : goal.invariant-loop-one
invariant-loop-one l =
    l.value ≡ in_force l.self.site.now l.self.kept.now (setting_from l.setting) l.tick.0
    (all_done (take l.one-index l.self.done.now))
