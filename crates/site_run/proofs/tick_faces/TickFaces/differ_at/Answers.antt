use Rattle.std.proofs.Common.{◌∙◌, Some, arith, ap, sym}
use Rattle.std.proofs.lemmas.Option.{slice_get-get_or}
use Rattle.face_text.proofs.SameFaces.{same_face_is}
use Rattle.site_run.proofs.SameFaces.{not_other, not_same, one_differs}
use Rattle.site_run.proofs.tick_faces.TickFaces.differ_at.Goals as goal

pub returns-clause-differ : goal.returns-clause-differ
returns-clause-differ c differs =
    let k = c.args.place in
    let within = c.requires.place in
    let room = c.requires.faces.room in
    one_differs c.args.self.now.after.now c.args.self.now.before.now k _ _ (slice_get-get_or c.args.self.now.after.now k _ within)
    (slice_get-get_or c.args.self.now.before.now k _ (omega (arith, within, room)))
    (sym c.are_same.ensures ∙ not_same c.are_same.result differs)

pub returns-clause-same : goal.returns-clause-same
returns-clause-same c same =
    let k = c.args.place in
    let within = c.requires.place in
    let room = c.requires.faces.room in
    let is = same_face_is _ _ (sym c.are_same.ensures ∙ not_other c.are_same.result same) in
    slice_get-get_or c.args.self.now.before.now k _ (omega (arith, within, room)) ∙ ap Some (sym is)
    ∙ sym (slice_get-get_or c.args.self.now.after.now k _ within)
