use Rattle.std.proofs.Common.{◌∙◌, ◌||◌, ap, get_or, sym}
use Rattle.std.specs.List.{list_any}
use Rattle.std.proofs.lemmas.List.Folds.{list_any_at, list_any_more}
use Rattle.told_operations.specs.Founding.{lacks_ground}
use Rattle.told_operations.proofs.Grounds.{no_answer}
use Rattle.told_operations.proofs.founding.is_groundless.Goals as goal

pub returns-then-lacks : goal.returns-then-lacks
returns-then-lacks c = λ before tells.
    let lacks = lacks_ground c.args.asked.now before c.args.step.now.tick.0 in
    sym (ap (list_any lacks) (sym c.as_slice-answers.ensures)
    ∙ list_any_at lacks c.as_slice-answers.result.now c.loop-place.place no_answer c.loop-place-test.true
    (sym (c.lacks.ensures before tells) ∙ c.if-lacks.true))

pub loop-place-preserved : goal.loop-place-preserved
loop-place-preserved c = λ before tells.
    let lacks = lacks_ground c.args.asked.now before c.args.step.now.tick.0 in
    list_any_more lacks c.as_slice-answers.result.now c.loop-place.place no_answer c.loop-place-test.true
    ∙ ap (λ b. b || lacks (get_or c.as_slice-answers.result.now c.loop-place.place no_answer)) (c.loop-place.invariant before tells) ∙ sym (c.lacks.ensures before tells) ∙ c.if-lacks.false
