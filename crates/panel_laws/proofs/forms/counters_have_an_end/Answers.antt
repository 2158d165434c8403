use Rattle.panel_laws.proofs.FacesInForm.{counter_ends as law}
use Rattle.panel_laws.proofs.forms.counters_have_an_end.Goals as goal

pub returns : goal.returns
returns c = law
