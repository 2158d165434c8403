use Rattle.std.proofs.Common.{sym, refl}
use Rattle.face_text.proofs.Holding.{puts_as, puts_nothing}
use Rattle.face_text.proofs.Listing.{group_is, group_same}
use Rattle.face_text.proofs.face_pair.FacePair.push_group.Goals as goal

pub returns-then-is_same-clause-text : goal.returns-then-is_same-clause-text
returns-then-is_same-clause-text g c =
    puts_nothing c.args.held.now _ _ (group_same c.args.self.now.site.now c.args.self.now.before.now c.args.self.now.after.now c.args.group (c.if-is_same.ensures refl))

pub returns-clause-text : goal.returns-clause-text
returns-clause-text g c =
    puts_as c.args.held.now c.push_numbers.new.held _ _ _ _ c.push_numbers.result
    (sym (group_is c.args.self.now.site.now c.args.self.now.before.now c.args.self.now.after.now c.args.group)) c.push_numbers.ensures.text
