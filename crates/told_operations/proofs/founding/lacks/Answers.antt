use Rattle.std.proofs.Common.{◌∙◌, ap, length, not, refl}
use Rattle.std.proofs.lemmas.Option.{slice_get_read}
use Rattle.told_operations.proofs.Grounds.{not_answered}
use Rattle.told_operations.proofs.founding.lacks.Goals as goal

pub returns-else-answered-place : goal.returns-else-answered-place
returns-else-answered-place c = λ before tells.
    let at = c.in-Some.ensures.lookup in
    let within = at.3.0 in
    ap not c.may_be.ensures
    ∙ not_answered c.args.asked.now c.args.answered.now before c.args.tick.0 c.args.answer c.in-Some.asked.now c.if-answer-eq0.false
    (slice_get_read c.args.asked.now (length c.args.asked.now) _ c.in-Some.asked.now refl within at.1)
    (rw c.requires within) tells c.if-answered-place.false
