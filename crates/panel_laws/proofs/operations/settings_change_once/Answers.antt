use Rattle.panel_laws.proofs.SettingLaws.{settings_change_once as law}
use Rattle.panel_laws.proofs.operations.settings_change_once.Goals as goal

pub returns : goal.returns
returns c = law
