use Rattle.panel_laws.proofs.FacesInForm.{by_panel as law}
use Rattle.panel_laws.proofs.forms.faces_are_by_panel.Goals as goal

pub returns : goal.returns
returns c = law
