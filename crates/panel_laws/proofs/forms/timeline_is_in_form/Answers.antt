use Rattle.panel_laws.proofs.TimelineForms.{in_form as law}
use Rattle.panel_laws.proofs.forms.timeline_is_in_form.Goals as goal

pub returns : goal.returns
returns c = law
