use Rattle.std.proofs.Common.{◌∙◌, sym, take}
use Rattle.blocked_points.specs.Operations.{done_newest_first}
use Rattle.blocked_points.proofs.InForce.{blocked_is}
use Rattle.blocked_points.proofs.blocked_points.BlockedPoints.blocks.Goals as goal

pub returns : goal.returns
returns c site kept operations tick valid at stands =
    c.blocks-2.ensures site kept (done_newest_first (take c.args.self.now.in_force operations)) valid at stands.settings
    ∙ sym (blocked_is site kept operations tick c.args.self.now stands c.args.place)
