use Rattle.std.proofs.Common.{◌∙◌, sym}
use Rattle.face_text.proofs.SameFaces.{code_eq_is}
use Rattle.face_text.proofs.change_lines.is_same_face.Goals as goal

pub returns : goal.returns
returns c same = code_eq_is c.args.before.now c.args.after.now (sym c.eq.ensures ∙ same)
