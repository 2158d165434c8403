use Rattle.std.proofs.Common.{◌∙◌, sym}
use Rattle.face_text.proofs.SameFaces.{faults_is}
use Rattle.face_text.proofs.sections.has_same_faults.Goals as goal

pub returns : goal.returns
returns c same = faults_is c.args.before.now.faults c.args.after.now.faults (sym c.eq.ensures ∙ same)
