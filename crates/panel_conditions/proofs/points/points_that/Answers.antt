use Rattle.std.proofs.Common.{◌≡◌, ◌∙◌, Some, slice_get, length, refl, ap, sym, subst, ◌≤◌}
use Rattle.std.proofs.lemmas.Option.{slice_get-get_or}
use Rattle.panel_conditions.specs.Parts.{is_asked}
use Rattle.panel_conditions.specs.PointSets.{loop_address, put_at}
use Rattle.panel_conditions.proofs.Firsts.{among_all, among_more, among_none, has_places}
use Rattle.panel_conditions.proofs.points.points_that.Goals as goal

pub loop-point-init : goal.loop-point-init
loop-point-init c own = c.no_points-set.ensures ∙ among_none c.args.site.now c.args.panel (is_asked c.args.site.now c.args.kept.now c.args.asked)

pub loop-point-preserved : goal.loop-point-preserved
loop-point-preserved c own =
    let site = c.args.site.now in
    let point = c.point-item.result in
    let k = c.loop-point.point-index in
    let at : slice_get site.points k ≡ Some point =
    ap (λ l. slice_get l k) (sym c.as_slice-points.ensures) ∙ slice_get-get_or c.as_slice-points.result.now k point c.loop-point-test.true ∙ ap
    (λ p. Some p) (sym c.point-item.is) in
    c.put.ensures
    ∙ ap (λ o. put_at o c.is_so.result c.loop-point.set) c.address_at.ensures
    ∙ ap (put_at (loop_address c.args.panel point) c.is_so.result) (c.loop-point.invariant own)
    ∙ among_more site c.args.panel (is_asked site c.args.kept.now c.args.asked) k point c.is_so.result own at (c.is_so.ensures (has_places site own k point at))

pub returns : goal.returns
returns c own =
    c.loop-point.invariant own
    ∙ among_all c.args.site.now c.args.panel (is_asked c.args.site.now c.args.kept.now c.args.asked) refl c.loop-point.point-index
    (subst (λ l. length l ≤ c.loop-point.point-index) c.as_slice-points.ensures c.loop-point-test.false)
