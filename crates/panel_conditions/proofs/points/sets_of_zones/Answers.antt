use Rattle.std.proofs.Common.{◌≡◌, ◌+◌, ◌∙◌, Some, option_map, slice_get, length, ap, sym, subst, arith}
use Rattle.std.proofs.lemmas.Option.{slice_get-get_or}
use Rattle.panel_conditions.specs.PointSets.{put_at_place}
use Rattle.panel_conditions.specs.Stands.{AreZoneSets}
use Rattle.panel_conditions.proofs.Firsts.{written_back, zone_sets_first, zone_sets_more}
use Rattle.panel_conditions.proofs.points.sets_of_zones.Goals as goal

pub loop-point-init : goal.loop-point-init
loop-point-init c own =
    zone_sets_first c.args.site.now c.args.panel c.len.result c.in_ok-sets.sets.items c.no_points.result c.no_points.ensures c.len.ensures
    (c.in_ok-sets.ensures.items_if_clones_equal (λ y e. e))

pub loop-point-preserved : goal.loop-point-preserved
loop-point-preserved c own =
    let site = c.args.site.now in
    let panel = c.args.panel in
    let point = c.point-item.result in
    let k = c.loop-point.point-index in
    let old = c.loop-point.sets in
    let new = c.put_into.new.sets in
    let at : slice_get site.points k ≡ Some point =
    ap (λ l. slice_get l k) (sym c.as_slice-points.ensures) ∙ slice_get-get_or c.as_slice-points.result.now k point c.loop-point-test.true ∙ ap
    (λ p. Some p) (sym c.point-item.is) in
    let count = c.put_into.ensures.count ∙ ap length c.deref_mut.ensures.value in
    subst (AreZoneSets site panel (k + 1)) (sym (written_back old.len new old.items (count ∙ sym old.ok.0)))
    (zone_sets_more site panel k point old.items new own at
    (λ zone. c.put_into.ensures.each zone ∙ ap (λ l. option_map (put_at_place point.zone c.address_at.result zone) (slice_get l zone)) c.deref_mut.ensures.value
    ∙ ap (λ a. option_map (put_at_place point.zone a zone) (slice_get old.items zone)) c.address_at.ensures)
    count (c.loop-point.invariant own))

pub returns : goal.returns
returns c own =
    let past = c.loop-point-test.false in
    let within = c.loop-point.auto.point-index-end in
    let whole : c.loop-point.point-index ≡ length c.as_slice-points.result.now = omega (arith, past, within) in
    subst (λ n. AreZoneSets c.args.site.now c.args.panel n c.loop-point.sets.items) (whole ∙ ap length c.as_slice-points.ensures)
    (c.loop-point.invariant own)
