use Rattle.audit_laws.proofs.FacesTold.{length_told}
use Rattle.audit_laws.proofs.faces.lengths_are_told.Goals as goal

pub returns : goal.returns
returns c = length_told
