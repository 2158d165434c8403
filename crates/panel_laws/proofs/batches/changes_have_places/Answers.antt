use Rattle.panel_laws.proofs.BatchesFit.{changes_have_places as law}
use Rattle.panel_laws.proofs.batches.changes_have_places.Goals as goal

pub returns : goal.returns
returns c = law
