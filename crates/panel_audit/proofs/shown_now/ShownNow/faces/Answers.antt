use Rattle.std.proofs.Common.{◌∙◌, ◌-◌, ap, sym, get_or}
use Rattle.panel_audit.proofs.ReadSteps.{faces_are, faces_read, last_faces}
use Rattle.panel_audit.proofs.shown_now.ShownNow.faces.Goals as goal

pub returns-then-self-eq0 : goal.returns-then-self-eq0
returns-then-self-eq0 c tick reads =
    let timeline = c.args.timeline.now in
    let count = c.args.self.now.steps in
    c.as_slice.ensures ∙ ap (λ n. faces_read n timeline.opened timeline.steps) (sym c.if-self-eq0.true)
    ∙ sym (faces_are timeline.steps tick count timeline.opened reads)

pub returns-in-Some : goal.returns-in-Some
returns-in-Some c tick reads =
    let timeline = c.args.timeline.now in
    let count = c.args.self.now.steps in
    c.as_slice-in-Some.ensures
    ∙ last_faces timeline.steps tick count timeline.opened c.in-Some.step.now reads c.if-self-eq0.false
    (c.in-Some.ensures.lookup.1 ∙ ap (λ xs. get_or xs (count - 1) c.in-Some.step.now) c.as_slice-2.ensures)
