use Rattle.panel_laws.proofs.SettingsShow.{accepted_shown as law}
use Rattle.panel_laws.proofs.shown_settings.accepted_is_shown.Goals as goal

pub returns : goal.returns
returns c = law
