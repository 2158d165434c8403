use Rattle.std.proofs.Common.{◌∙◌, Some, ap, map}
use Rattle.plain_operations.specs.Desks.{answered_of}
use Rattle.plain_history.specs.Histories.{history}
use Rattle.plain_panel.proofs.Tellers.{given_now, told_then}
use Rattle.plain_panel.proofs.Timelines.{closed_is, step_is}
use Rattle.plain_panel.proofs.telling.Telling.step_told.Goals as goal

pub returns-then-is_told : goal.returns-then-is_told
returns-then-is_told c =
    let site = c.args.site.now in
    let kept = c.args.kept.now in
    let moments = history c.args.before.now in
    let telling = c.args.self.now in
    let s = c.requires.stands in
    let now =
    given_now site kept moments telling s c.requests-requests.result.now c.as_slice-answers.result.now c.in_ok-now.now.items
    c.requests-requests.ensures (c.as_slice-answers.ensures.value ∙ ap (λ o. o.answers.items) c.outcomes.ensures) (c.in_ok-now.ensures site kept) in
    let told =
    told_then site kept moments telling s c.args.faces.now c.as_slice.result.now c.requires.faces c.as_slice.ensures.value c.in_ok-now.now.items
    c.as_slice-now.result.now now c.as_slice-now.ensures.value c.is_told.result c.is_told.ensures in
    ap Some
    (c.in_ok-step.ensures
    ∙ step_is site kept moments telling.tick c.args.faces.now (map answered_of c.as_slice-now.result.now) telling.failed s.tick c.requires.faces
    (ap (map answered_of) c.as_slice-now.ensures.value ∙ now) s.failed)
    ∙ closed_is site kept moments c.is_told.result _ told c.if-is_told.true

pub returns : goal.returns
returns c =
    let site = c.args.site.now in
    let kept = c.args.kept.now in
    let moments = history c.args.before.now in
    let telling = c.args.self.now in
    let answered = c.as_slice-answers.ensures.value ∙ ap (λ o. o.answers.items) c.outcomes.ensures in
    closed_is site kept moments c.is_told.result _
    (told_then site kept moments telling c.requires.stands c.args.faces.now c.as_slice.result.now c.requires.faces c.as_slice.ensures.value
    c.in_ok-now.now.items c.as_slice-now.result.now
    (given_now site kept moments telling c.requires.stands c.requests-requests.result.now c.as_slice-answers.result.now c.in_ok-now.now.items
    c.requests-requests.ensures answered (c.in_ok-now.ensures site kept)) c.as_slice-now.ensures.value c.is_told.result c.is_told.ensures)
    c.if-is_told.false
