use Rattle.face_text.proofs.Holding.{puts_as, puts_nothing}
use Rattle.face_text.proofs.Listing.{line_parts, no_parts}
use Rattle.face_text.proofs.face_pair.FacePair.push_number.Goals as goal

pub returns-in-Some-clause-text : goal.returns-in-Some-clause-text
returns-in-Some-clause-text g c =
    let pair = c.args.self.now in
    puts_as c.args.held.now c.push_named.new.held _ _ _ _ c.push_named.result
    (line_parts pair.site.now pair.before.now pair.after.now c.args.group c.args.number c.args.head.now.bytes c.in-Some.name.bytes c.shows-on.result
    c.requires.head c.requires.changed c.in-Some.ensures.name c.shows-on.ensures) c.push_named.ensures.text

pub returns-in-None-clause-text : goal.returns-in-None-clause-text
returns-in-None-clause-text g c =
    let pair = c.args.self.now in
    puts_nothing c.args.held.now _ _ (no_parts pair.site.now pair.before.now pair.after.now c.args.group c.args.number c.in-None.ensures.name)
