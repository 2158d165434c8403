use Rattle.std.proofs.Common.{◌≡◌, ◌<◌, ℕ, [], ◌∷◌, slice_index, slice_index_or, ◌∙◌, ap, refl, sym, arith, length}
use Rattle.std.specs.List.{flat_map}
use Rattle.tick_units.specs.Lane.{with_put}
use Rattle.loop_poller.specs.declared.group.Group.{Group}
use Rattle.loop_poller.specs.Groups.{group_answers}
use Rattle.loop_poller.proofs.BlockAnswers.{AreMasks, is_four, masks_in, whole_told}
use Rattle.loop_poller.proofs.blocks.put_block.Goals as goal

pub returns-clause-put : goal.returns-clause-put
returns-clause-put c =
    let groups = c.args.groups.now in
    let states = c.args.states.now in
    let a = slice_index_or groups 0 c.index-groups-0.result in
    let b = slice_index_or groups 1 c.index-groups-1.result in
    let g = slice_index_or groups 2 c.index-groups-2.result in
    let d = slice_index_or groups 3 c.index-groups-3.result in
    let size : length groups ≡ 4 = omega arith in
    let firsts = a.first ∷ b.first ∷ g.first ∷ d.first ∷ [] in
    let masks : (group : Group) (number : ℕ) → number < 4 → group.first ≡ slice_index firsts number
    → AreMasks group states (slice_index c.parted.result number) (slice_index c.parted-2.result number) =
    λ group number less is.
    masks_in c.args.now.0 states group firsts c.parted.result c.parted-2.result c.alarms_in.result c.gone_in.result number less is c.parted.ensures
    c.parted-2.ensures c.alarms_in.ensures c.gone_in.ensures in
    c.put_run.ensures ∙ ap (with_put c.args.answers.now)
    (whole_told c.args.now.0 states a b g d c.parted.result c.parted-2.result (masks a 0 (omega arith) refl) (masks b 1 (omega arith) refl)
    (masks g 2 (omega arith) refl) (masks d 3 (omega arith) refl)
    (c.requires.within 0 c.index-groups-0.result (omega (arith, size)))
    (c.requires.within 1 c.index-groups-1.result (omega (arith, size)))
    (c.requires.within 2 c.index-groups-2.result (omega (arith, size)))
    (c.requires.within 3 c.index-groups-3.result (omega (arith, size)))
    ∙ ap (flat_map (λ group. group_answers c.args.now.0 group states))
    (sym (is_four groups c.index-groups-0.result c.index-groups-1.result c.index-groups-2.result c.index-groups-3.result size)))
