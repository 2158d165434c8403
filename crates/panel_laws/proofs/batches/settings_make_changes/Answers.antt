use Rattle.panel_laws.proofs.DoneKept.{settings_make_changes as law}
use Rattle.panel_laws.proofs.batches.settings_make_changes.Goals as goal

pub returns : goal.returns
returns c = law
