use Rattle.site_types.proofs.Places.{places_of}
use Rattle.panel_conditions.proofs.Firsts.{points_first}
use Rattle.panel_conditions.proofs.points.Points.new.Goals as goal

pub returns : goal.returns
returns c valid =
    let own = places_of c.args.site.now valid in
    points_first c.args.site.now c.args.kept.now c.args.panel _ valid own c.in_ok-addresses.ensures (c.in_ok-of_zones.ensures own) c.no_points.ensures
    c.in_ok-told.ensures _ _ c.new-off.ensures c.new-zone_off.ensures
    (c.points_that.ensures own) (c.points_that-2.ensures own)
