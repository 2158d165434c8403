use Rattle.std.proofs.Common.{false, map, refl, sym, ◌∙◌, ap, arith, slice_get, subst}
use Rattle.site_types.proofs.ValidSites.{zone_at}
use Rattle.answer_lanes.specs.Places.{HasFirst}
use Rattle.coincidence.specs.Parts.{point_from, zone_from}
use Rattle.coincidence.specs.ZoneMasks.{TellZonesOf}
use Rattle.coincidence.proofs.Begun.{stands_begun}
use Rattle.coincidence.proofs.decide.Decide.new.Goals as goal

pub watch_zones-requires : goal.watch_zones-requires
watch_zones-requires c k zone there =
    let most = c.requires.forms.panels.1 in
    let fits = zone_at c.args.site.now c.requires k zone (ap (λ xs. slice_get xs k) (sym c.as_slice-4.ensures) ∙ there) in
    let panel = fits.panel in
    ((panel.0, omega (arith, panel, most)), fits.number)

pub of_blocks-requires : goal.of_blocks-requires
of_blocks-requires c k zone there =
    (zone_at c.args.site.now c.requires k zone (ap (λ xs. slice_get xs k) (sym c.as_slice-7.ensures) ∙ there)).number

pub returns : goal.returns
returns c =
    stands_begun c.args.site.now c.args.kept.now c.requires c.args.panel _ refl
    (c.in_ok-points.ensures ∙ ap (map (point_from c.args.kept.now)) c.as_slice-2.ensures)
    (c.in_ok-zones.ensures ∙ ap (map (zone_from c.args.kept.now)) c.as_slice-4.ensures)
    c.never.ensures (subst (λ n. HasFirst n false c.in_ok-going_on.going_on) c.len.ensures c.in_ok-going_on.ensures)
    (subst (λ xs. TellZonesOf xs c.args.site.now.zones c.in_ok-told.told.blocks.items) c.as_slice-6.ensures
    (subst (λ xs. TellZonesOf c.as_slice-6.result.now xs c.in_ok-told.told.blocks.items) c.as_slice-7.ensures c.in_ok-told.ensures))
