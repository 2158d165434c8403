use Rattle.audit_laws.proofs.DoneTold.{done_told}
use Rattle.audit_laws.proofs.SettingsTold.{settings_told}
use Rattle.audit_laws.proofs.ZonesTold.{zones_told}
use Rattle.audit_laws.proofs.done.done_is_told.Goals as goal

pub returns-clause-told : goal.returns-clause-told
returns-clause-told c = done_told

pub returns-clause-settings : goal.returns-clause-settings
returns-clause-settings c = settings_told

pub returns-clause-zones : goal.returns-clause-zones
returns-clause-zones c = zones_told
