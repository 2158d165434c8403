use Rattle.std.proofs.Common.{◌≡◌, get_or, length, refl, subst}
use Rattle.std.proofs.lemmas.Option.{slice_get_read}
use Rattle.panel_rules.specs.Moments.{moments}
use Rattle.due_zones.proofs.ZonesDue.{all_more, none_told, reach_is}
use Rattle.due_zones.proofs.due_zones.with_due.Goals as goal

pub returns-then-is_none : goal.returns-then-is_none
returns-then-is_none c kept done ticks stands now are below =
    none_told c.args.site.now kept done (moments ticks) c.args.panel c.args.place c.args.signal.now c.args.due c.is_none.result c.if-is_none.true
    c.is_none.ensures are below

pub returns : goal.returns
returns c kept done ticks stands now are below =
    let site = c.args.site.now in
    let place = c.args.place in
    let zone = c.index-as_slice-place.result in
    let at =
    slice_get_read site.zones (length site.zones) place zone refl c.requires.within
    (subst (λ zones. zone ≡ get_or zones place zone) c.as_slice.ensures c.index-as_slice-place.is) in
    all_more site kept done (moments ticks) c.args.panel place c.requires.valid c.args.signal.now are _
    (reach_is site ticks place c.args.panel c.args.now.0 zone c.latest_window.result at now (c.latest_window.ensures site ticks stands)) c.args.due
    c.is_due.result c.is_due-2.result c.is_due-3.result c.with_zone.result c.with_zone-2.result c.with_zone-3.result c.is_due.ensures c.is_due-2.ensures
    c.is_due-3.ensures (c.with_zone.ensures site place c.requires.valid at) (c.with_zone-2.ensures site place c.requires.valid at)
    (c.with_zone-3.ensures site place c.requires.valid at) below
