use Rattle.std.proofs.Common.{◌∙◌, arith, drop}
use Rattle.std.proofs.lemmas.List.{length-drop, take_all}
use Rattle.face_text.proofs.NextNames.{drop_least}
use Rattle.face_text.proofs.next_names.left_of.Goals as goal

pub returns : goal.returns
returns g c =
    let from = c.min.result in
    let list = c.args.list.now in
    take_all _ (drop from list) (let e = length-drop from list in omega (arith, e))
    ∙ drop_least list c.args.passed from (λ low. omega (arith, c.min.ensures, low)) (λ high. omega (arith, c.min.ensures, high))
