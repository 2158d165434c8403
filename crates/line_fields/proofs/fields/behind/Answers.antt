use Rattle.std.proofs.Common.{◌+◌, ◌∙◌}
use Rattle.std.proofs.lemmas.List.{take_rest}
use Rattle.line_fields.proofs.Spaces.{drop_place, drop_none}
use Rattle.line_fields.proofs.fields.behind.Goals as goal

pub returns-then-place-text : goal.returns-then-place-text
returns-then-place-text c =
    let text = c.args.text.now in
    let place = c.args.place in
    take_rest text (place + 1) ∙ drop_place text place c.requires.place c.if-place-text.true

pub returns-else-place-text : goal.returns-else-place-text
returns-else-place-text c =
    let text = c.args.text.now in
    let place = c.args.place in
    take_rest text place ∙ drop_none text place c.requires.place c.requires.within c.if-place-text.false
