use Rattle.std.proofs.Common.{◌∙◌, ap}
use Rattle.face_text.specs.Lists.{listed}
use Rattle.face_text.proofs.Holding.{puts_as, puts_nothing}
use Rattle.face_text.proofs.face_items.FaceItems.push_item.Goals as goal

pub returns-in-Some-clause-text : goal.returns-in-Some-clause-text
returns-in-Some-clause-text g c =
    let item = c.as_bytes.ensures.value ∙ c.as_str.ensures.value ∙ c.in-Some.ensures.text in
    puts_as c.args.held.now c.push.new.self _ _ _ _ c.push.result item c.push.ensures.text

pub returns-in-None-clause-text : goal.returns-in-None-clause-text
returns-in-None-clause-text g c = puts_nothing c.args.held.now _ _ (ap (listed c.args.begun.now) c.in-None.ensures.none)
