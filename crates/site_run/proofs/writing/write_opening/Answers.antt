use Rattle.std.proofs.Common.{◌++◌, ◌∙◌, [], append-nil, ap, sym}
use Rattle.face_text.proofs.Holding.{all_written, front_of, moves_more, moves_none, part_written}
use Rattle.face_text.specs.Timelines.{faces_text}
use Rattle.site_run.proofs.AlikeFaces.{none_alike}
use Rattle.site_run.proofs.writing.write_opening.Goals as goal

pub push_faces-requires : goal.push_faces-requires
push_faces-requires g c =
    record { room = c.requires; alike = none_alike c.args.before.now c.args.after.now; passed = c.none.ensures c.args.site.now }

pub returns-in_err-push-clause-err : goal.returns-in_err-push-clause-err
returns-in_err-push-clause-err g c =
    let faces = faces_text c.args.site.now c.args.before.now c.args.after.now in
    let held = c.new-held.result in
    let line = c.as_bytes.ensures.value ∙ c.as_str.ensures.value ∙ c.opening_line.ensures.text in
    front_of held held _ _ _ [] c.as_bytes.result.now faces _ c.from_residual.result
    c.new-held.ensures c.from_residual.ensures.0 (ap (λ xs. xs ++ faces) (sym line)) (moves_none held _) c.in_err-push.ensures.text.err

pub returns-in_err-push_faces-clause-err : goal.returns-in_err-push_faces-clause-err
returns-in_err-push_faces-clause-err g c =
    let faces = faces_text c.args.site.now c.args.before.now c.args.after.now in
    let line = c.as_bytes.ensures.value ∙ c.as_str.ensures.value ∙ c.opening_line.ensures.text in
    let text = c.as_bytes.result.now in
    front_of c.new-held.result c.push.new.self _ _ _ text faces [] _ c.from_residual-in_err-push_faces.result
    c.new-held.ensures c.from_residual-in_err-push_faces.ensures.0 (ap (λ xs. xs ++ faces) (sym line) ∙ sym (append-nil (text ++ faces)))
    c.in_ok-push.ensures.text.ok c.in_err-push_faces.ensures.text.err

pub returns-clause-ok : goal.returns-clause-ok
returns-clause-ok g c =
    let faces = faces_text c.args.site.now c.args.before.now c.args.after.now in
    let line = c.as_bytes.ensures.value ∙ c.as_str.ensures.value ∙ c.opening_line.ensures.text in
    let text = c.as_bytes.result.now in
    all_written c.new-held.result c.push_faces.new.held _ _ _ (text ++ faces) _ c.flush.result c.new-held.ensures
    (ap (λ xs. xs ++ faces) (sym line))
    (moves_more c.new-held.result c.push.new.self c.push_faces.new.held _ _ _ text faces c.in_ok-push.ensures.text.ok
    c.in_ok-push_faces.ensures.text.ok) c.flush.ensures.written

pub returns-clause-err : goal.returns-clause-err
returns-clause-err g c =
    let faces = faces_text c.args.site.now c.args.before.now c.args.after.now in
    let line = c.as_bytes.ensures.value ∙ c.as_str.ensures.value ∙ c.opening_line.ensures.text in
    let text = c.as_bytes.result.now in
    part_written c.new-held.result c.push_faces.new.held _ _ _ (text ++ faces) _ c.flush.result c.new-held.ensures
    (ap (λ xs. xs ++ faces) (sym line))
    (moves_more c.new-held.result c.push.new.self c.push_faces.new.held _ _ _ text faces c.in_ok-push.ensures.text.ok
    c.in_ok-push_faces.ensures.text.ok) c.flush.ensures.err
