use Rattle.std.proofs.Common.{[], append-nil, refl, sym}
use Rattle.face_text.specs.Changes.{changes_text}
use Rattle.face_text.proofs.Holding.{all_written, front_of, moves_none, part_written}
use Rattle.face_text.proofs.change_lines.write_changes.Goals as goal

pub returns-in_err-push_changes-clause-err : goal.returns-in_err-push_changes-clause-err
returns-in_err-push_changes-clause-err g c =
    let text = changes_text c.args.site.now c.args.before.now c.args.after.now in
    let held = c.new-held.result in
    front_of held held _ _ _ [] text [] text c.from_residual.result
    c.new-held.ensures c.from_residual.ensures.0 (sym (append-nil text)) (moves_none held _) c.in_err-push_changes.ensures.text.err

pub returns-clause-ok : goal.returns-clause-ok
returns-clause-ok g c =
    let text = changes_text c.args.site.now c.args.before.now c.args.after.now in
    all_written c.new-held.result c.push_changes.new.held _ _ _ text text c.flush.result c.new-held.ensures refl c.in_ok-push_changes.ensures.text.ok
    c.flush.ensures.written

pub returns-clause-err : goal.returns-clause-err
returns-clause-err g c =
    let text = changes_text c.args.site.now c.args.before.now c.args.after.now in
    part_written c.new-held.result c.push_changes.new.held _ _ _ text text c.flush.result c.new-held.ensures refl c.in_ok-push_changes.ensures.text.ok
    c.flush.ensures.err
