use Rattle.std.proofs.Common.{subst, sym}
use Rattle.blocked_points.specs.Operations.{done_newest_first}
use Rattle.zone_signals.specs.Floors.{AreFloors}
use Rattle.zone_signals.proofs.FloorsTaken.{floors_known}
use Rattle.zone_signals.proofs.floors.Floors.rows.Goals as goal

pub returns : goal.returns
returns c site operations tick stands =
    subst (AreFloors site (done_newest_first operations) tick) (sym c.deref.ensures.value) (floors_known site operations tick c.args.self.now stands)
