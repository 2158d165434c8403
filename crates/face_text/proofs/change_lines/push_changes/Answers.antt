use Rattle.std.proofs.Common.{[], ◌∷◌, refl, sym}
use Rattle.std.specs.List.{flat_map}
use Rattle.face_text.specs.Changes.{change_of, groups_text}
use Rattle.face_text.specs.Slots.{Delays, Sounding, Count, page}
use Rattle.face_text.proofs.Holding.{moves_none, puts_as, puts_broken, puts_more, puts_nothing}
use Rattle.face_text.proofs.Listing.{changes_are, same_text}
use Rattle.face_text.proofs.change_lines.push_changes.Goals as goal

pub returns-then-is_same_face-clause-text : goal.returns-then-is_same_face-clause-text
returns-then-is_same_face-clause-text g c =
    puts_nothing c.args.held.now _ _ (same_text c.args.site.now c.args.before.now c.args.after.now (c.if-is_same_face.ensures refl))

pub returns-in_err-push_groups-clause-text : goal.returns-in_err-push_groups-clause-text
returns-in_err-push_groups-clause-text g c =
    let site = c.args.site.now in
    let before = c.args.before.now in
    let after = c.args.after.now in
    let groups = groups_text site before after page in
    let rest = flat_map (change_of site before after) (Delays ∷ Sounding ∷ Count ∷ []) in
    puts_broken c.args.held.now c.args.held.now c.push_groups.new.held _ _ _ [] groups rest _ c.from_residual.result c.from_residual.ensures.0
    (sym (changes_are site before after)) (moves_none c.args.held.now _) c.in_err-push_groups.ensures.text.err

pub returns-clause-text : goal.returns-clause-text
returns-clause-text g c =
    let site = c.args.site.now in
    let before = c.args.before.now in
    let after = c.args.after.now in
    let groups = groups_text site before after page in
    let rest = flat_map (change_of site before after) (Delays ∷ Sounding ∷ Count ∷ []) in
    puts_as c.args.held.now c.push_rest.new.held _ _ _ _ c.push_rest.result (changes_are site before after)
    (puts_more c.args.held.now c.push_groups.new.held c.push_rest.new.held _ _ _ groups rest c.push_rest.result c.in_ok-push_groups.ensures.text.ok
    c.push_rest.ensures.text)
