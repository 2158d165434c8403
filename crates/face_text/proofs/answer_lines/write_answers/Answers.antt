use Rattle.std.proofs.Common.{[], append-nil, refl, sym}
use Rattle.face_text.specs.Answers.{answers_text}
use Rattle.face_text.proofs.Holding.{all_written, front_of, moves_none, part_written}
use Rattle.face_text.proofs.answer_lines.write_answers.Goals as goal

pub returns-in_err-push_answers-clause-err : goal.returns-in_err-push_answers-clause-err
returns-in_err-push_answers-clause-err g c =
    let text = answers_text c.args.answers.now in
    let held = c.new-held.result in
    front_of held held _ _ _ [] text [] text c.from_residual.result
    c.new-held.ensures c.from_residual.ensures.0 (sym (append-nil text)) (moves_none held _) c.in_err-push_answers.ensures.text.err

pub returns-clause-ok : goal.returns-clause-ok
returns-clause-ok g c =
    let text = answers_text c.args.answers.now in
    all_written c.new-held.result c.push_answers.new.held _ _ _ text text c.flush.result c.new-held.ensures refl c.in_ok-push_answers.ensures.text.ok
    c.flush.ensures.written

pub returns-clause-err : goal.returns-clause-err
returns-clause-err g c =
    let text = answers_text c.args.answers.now in
    part_written c.new-held.result c.push_answers.new.held _ _ _ text text c.flush.result c.new-held.ensures refl c.in_ok-push_answers.ensures.text.ok
    c.flush.ensures.err
