use Rattle.std.proofs.Common.{◌≡◌, ◌++◌, ◌∙◌, ℕ, List, [], append-nil, append_assoc, ap, sym}
use Rattle.face_text.proofs.Holding.{all_written, front_of, moves_more, moves_none, part_written}
use Rattle.face_text.specs.Answers.{answers_text}
use Rattle.face_text.specs.Timelines.{faces_text}
use Rattle.site_run.proofs.writing.TickPage.put.Goals as goal

-- three texts, one after another
three : (x y z line : List ℕ) → line ≡ x → (x ++ y) ++ z ≡ (line ++ y) ++ z
three x y z line e = ap (λ w. (w ++ y) ++ z) (sym e)

-- the first of them, and the others behind it
first : (x y z line : List ℕ) → line ≡ x → (x ++ y) ++ z ≡ line ++ (y ++ z)
first x y z line e = ap (λ w. (w ++ y) ++ z) (sym e) ∙ append_assoc line y z

pub returns-in_err-push-clause-err : goal.returns-in_err-push-clause-err
returns-in_err-push-clause-err g c =
    let page = c.args.self.now in
    let faces = faces_text page.faces.site.now page.faces.before.now page.faces.after.now in
    let answers = answers_text page.answers.now in
    let held = c.new-held.result in
    let line = c.as_bytes.ensures.value ∙ c.as_str.ensures.value ∙ c.tick_line.ensures.text in
    front_of held held _ _ _ [] c.as_bytes.result.now (faces ++ answers) _ c.from_residual.result
    c.new-held.ensures c.from_residual.ensures.0 (first _ faces answers c.as_bytes.result.now line) (moves_none held _) c.in_err-push.ensures.text.err

pub returns-in_err-push_faces-clause-err : goal.returns-in_err-push_faces-clause-err
returns-in_err-push_faces-clause-err g c =
    let page = c.args.self.now in
    let faces = faces_text page.faces.site.now page.faces.before.now page.faces.after.now in
    let answers = answers_text page.answers.now in
    let line = c.as_bytes.ensures.value ∙ c.as_str.ensures.value ∙ c.tick_line.ensures.text in
    let text = c.as_bytes.result.now in
    front_of c.new-held.result c.push.new.self _ _ _ text faces answers _ c.from_residual-in_err-push_faces.result
    c.new-held.ensures c.from_residual-in_err-push_faces.ensures.0 (three _ faces answers text line)
    c.in_ok-push.ensures.text.ok c.in_err-push_faces.ensures.text.err

pub returns-in_err-push_answers-clause-err : goal.returns-in_err-push_answers-clause-err
returns-in_err-push_answers-clause-err g c =
    let page = c.args.self.now in
    let faces = faces_text page.faces.site.now page.faces.before.now page.faces.after.now in
    let answers = answers_text page.answers.now in
    let line = c.as_bytes.ensures.value ∙ c.as_str.ensures.value ∙ c.tick_line.ensures.text in
    let text = c.as_bytes.result.now in
    front_of c.new-held.result c.push_faces.new.held _ _ _ (text ++ faces) answers [] _ c.from_residual-in_err-push_answers.result
    c.new-held.ensures c.from_residual-in_err-push_answers.ensures.0 (three _ faces answers text line ∙ sym (append-nil ((text ++ faces) ++ answers)))
    (moves_more c.new-held.result c.push.new.self c.push_faces.new.held _ _ _ text faces c.in_ok-push.ensures.text.ok
    c.in_ok-push_faces.ensures.text.ok) c.in_err-push_answers.ensures.text.err

pub returns-clause-ok : goal.returns-clause-ok
returns-clause-ok g c =
    let page = c.args.self.now in
    let faces = faces_text page.faces.site.now page.faces.before.now page.faces.after.now in
    let answers = answers_text page.answers.now in
    let line = c.as_bytes.ensures.value ∙ c.as_str.ensures.value ∙ c.tick_line.ensures.text in
    let text = c.as_bytes.result.now in
    all_written c.new-held.result c.push_answers.new.held _ _ _ ((text ++ faces) ++ answers) _ c.flush.result c.new-held.ensures
    (three _ faces answers text line)
    (moves_more c.new-held.result c.push_faces.new.held c.push_answers.new.held _ _ _ (text ++ faces) answers
    (moves_more c.new-held.result c.push.new.self c.push_faces.new.held _ _ _ text faces c.in_ok-push.ensures.text.ok
    c.in_ok-push_faces.ensures.text.ok) c.in_ok-push_answers.ensures.text.ok) c.flush.ensures.written

pub returns-clause-err : goal.returns-clause-err
returns-clause-err g c =
    let page = c.args.self.now in
    let faces = faces_text page.faces.site.now page.faces.before.now page.faces.after.now in
    let answers = answers_text page.answers.now in
    let line = c.as_bytes.ensures.value ∙ c.as_str.ensures.value ∙ c.tick_line.ensures.text in
    let text = c.as_bytes.result.now in
    part_written c.new-held.result c.push_answers.new.held _ _ _ ((text ++ faces) ++ answers) _ c.flush.result c.new-held.ensures
    (three _ faces answers text line)
    (moves_more c.new-held.result c.push_faces.new.held c.push_answers.new.held _ _ _ (text ++ faces) answers
    (moves_more c.new-held.result c.push.new.self c.push_faces.new.held _ _ _ text faces c.in_ok-push.ensures.text.ok
    c.in_ok-push_faces.ensures.text.ok) c.in_ok-push_answers.ensures.text.ok) c.flush.ensures.err
