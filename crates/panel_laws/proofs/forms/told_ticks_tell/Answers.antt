use Rattle.panel_laws.proofs.TimelineForms.{told_ticks_tell as law}
use Rattle.panel_laws.proofs.forms.told_ticks_tell.Goals as goal

pub returns : goal.returns
returns c = law
