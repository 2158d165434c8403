-- The settings of the code as those of the rules.
use Rattle.site_types.specs.Done.{Setting as SettingOf, PointOff as PointOffOf, ZoneOff as ZoneOffOf}
use Rattle.site_types.specs.Done.{OutputOff as OutputOffOf, InTest as InTestOf, DelaysOff as DelaysOffOf}
use Rattle.site_types.specs.Done.{Counter as CounterOf}
use Rattle.panel_settings.specs.declared.setting.Setting.{Setting}
use Rattle.panel_settings.specs.declared.setting.Setting.TheVariants.{PointOff, ZoneOff, OutputOff, InTest}
use Rattle.panel_settings.specs.declared.setting.Setting.TheVariants.{DelaysOff, Counter}

abbrev pub setting_from : Setting → SettingOf
setting_from (PointOff point) = PointOffOf point
setting_from (ZoneOff zone) = ZoneOffOf zone
setting_from (OutputOff output) = OutputOffOf output
setting_from (InTest zone) = InTestOf zone
setting_from (DelaysOff panel) = DelaysOffOf panel
setting_from (Counter panel) = CounterOf panel
