use Rattle.audit_laws.proofs.FacesTold.{faces_told, face_told}
use Rattle.audit_laws.proofs.faces.faces_are_told.Goals as goal

pub returns-clause-all : goal.returns-clause-all
returns-clause-all c = faces_told

pub returns-clause-each : goal.returns-clause-each
returns-clause-each c = face_told
