use Rattle.panel_laws.proofs.FacesInForm.{of_the_site as law}
use Rattle.panel_laws.proofs.forms.faces_are_of_site.Goals as goal

pub returns : goal.returns
returns c = law
