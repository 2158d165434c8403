use Rattle.panel_laws.proofs.SettingsShow.{settings_shown as law}
use Rattle.panel_laws.proofs.shown_settings.settings_are_shown.Goals as goal

pub returns : goal.returns
returns c = law
