use Rattle.panel_laws.proofs.CutOff.{cut_off_silent as law}
use Rattle.panel_laws.proofs.other_deadlines.cut_off_is_silent.Goals as goal

pub returns : goal.returns
returns c = law
