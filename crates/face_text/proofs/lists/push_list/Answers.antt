use Rattle.std.proofs.Common.{◌++◌, [], ◌∷◌, false, refl}
use Rattle.face_text.specs.Lists.{items_of, listed}
use Rattle.face_text.proofs.Holding.{moves_more, moves_none, puts_broken, puts_more}
use Rattle.face_text.proofs.lists.push_list.Goals as goal

pub returns-in_err-push-clause-text : goal.returns-in_err-push-clause-text
returns-in_err-push-clause-text g c =
    let items = listed false (items_of c.args.site.now c.args.face.now c.args.list) in
    puts_broken c.args.held.now c.args.held.now c.push.new.self _ _ _ [] (91 ∷ []) (items ++ 93 ∷ []) _ c.from_residual.result
    c.from_residual.ensures.0
    refl (moves_none c.args.held.now _) c.in_err-push.ensures.text.err

pub returns-in_err-push_all-clause-text : goal.returns-in_err-push_all-clause-text
returns-in_err-push_all-clause-text g c =
    let items = listed false (items_of c.args.site.now c.args.face.now c.args.list) in
    puts_broken c.args.held.now c.push.new.self c.push_all.new.held _ _ _ (91 ∷ []) items (93 ∷ []) _ c.from_residual-in_err-push_all.result
    c.from_residual-in_err-push_all.ensures.0 refl c.in_ok-push.ensures.text.ok c.in_err-push_all.ensures.text.err

pub returns-clause-text : goal.returns-clause-text
returns-clause-text g c =
    let items = listed false (items_of c.args.site.now c.args.face.now c.args.list) in
    let two =
    moves_more c.args.held.now c.push.new.self c.push_all.new.held _ _ _ (91 ∷ []) items c.in_ok-push.ensures.text.ok
    c.in_ok-push_all.ensures.text.ok in
    puts_more c.args.held.now c.push_all.new.held c.push-2.new.self _ _ _ (91 ∷ items) (93 ∷ []) c.push-2.result two c.push-2.ensures.text
