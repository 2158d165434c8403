use Rattle.std.proofs.Common.{sym, subst}
use Rattle.coincidence.specs.ZoneMasks.{TellZonesOf}
use Rattle.coincidence.proofs.ZoneMasks.{one_block_more}
use Rattle.coincidence.proofs.known_zones.KnownZones.know.Goals as goal

pub returns : goal.returns
returns c before =
    subst (TellZonesOf c.args.points.now c.args.zones.now) (sym c.in_ok-push.ensures.items)
    (one_block_more c.args.points.now c.args.zones.now _ c.in-Some.block c.in-Some.ensures before)
