use Rattle.std.proofs.Common.{◌∙◌, sym}
use Rattle.face_text.proofs.SameFaces.{numbers}
use Rattle.face_text.proofs.sections.has_same_firsts.Goals as goal

pub returns : goal.returns
returns c same = numbers c.args.before.now.firsts c.args.after.now.firsts (sym c.eq.ensures ∙ same)
