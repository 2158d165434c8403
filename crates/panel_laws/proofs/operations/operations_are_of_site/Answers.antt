use Rattle.panel_laws.proofs.EventsOfSite.{of_site as law}
use Rattle.panel_laws.proofs.operations.operations_are_of_site.Goals as goal

pub returns : goal.returns
returns c = law
