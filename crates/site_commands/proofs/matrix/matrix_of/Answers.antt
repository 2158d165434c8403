use Rattle.std.proofs.Common.{◌≡◌, Some, length, ap, arith, sym, ◌∙◌}
use Rattle.std.specs.Prelude.{slice_get}
use Rattle.std.proofs.lemmas.Option.{slice_get-get_or}
use Rattle.cause_effect.proofs.Depths.{the_values, the_values_solve}
use Rattle.cause_effect.proofs.Orders.{order_is_free}
use Rattle.site_commands.specs.Matrix.{released_alone}
use Rattle.site_commands.proofs.Matrices.{is_matrix, line_more, no_lines, values_at}
use Rattle.site_commands.proofs.matrix.matrix_of.Goals as goal

pub loop-zone-init : goal.loop-zone-init
loop-zone-init c = c.new-text.ensures.items ∙ sym (no_lines c.args.site.now (values_at c.args.site.now))

pub loop-zone-preserved : goal.loop-zone-preserved
loop-zone-preserved c =
    let site = c.args.site.now in
    let items = c.as_slice-zone-items.result.now in
    let k = c.loop-zone.zone-index in
    let zone = c.zone-item.result in
    let free = order_is_free site c.args.plan.now.order c.requires.plan.order in
    let at : slice_get site.zones k ≡ Some zone =
    ap (λ xs. slice_get xs k) (sym c.as_slice-zone-items.ensures) ∙
    (slice_get-get_or items k zone c.loop-zone-test.true ∙ ap Some (sym c.zone-item.is)) in
    line_more site k zone c.loop-zone.text.items c.push_zone.new.text.items at c.loop-zone.invariant
    (c.in_ok-push_zone.ensures (the_values site (released_alone zone)) (the_values_solve site (released_alone zone) free))

pub returns : goal.returns
returns c =
    let site = c.args.site.now in
    let all = ap length c.as_slice-zone-items.ensures in
    let least = c.loop-zone-test.false in
    let most = c.loop-zone.auto.zone-index-end in
    let whole : c.loop-zone.zone-index ≡ length site.zones = omega (arith, least, most, all) in
    is_matrix site c.loop-zone.zone-index c.from_vec.result (order_is_free site c.args.plan.now.order c.requires.plan.order) whole
    (c.from_vec.ensures ∙ c.loop-zone.invariant)
