use Rattle.blocked_points.proofs.Counted.{earlier_on, later_on}
use Rattle.excused_outputs.proofs.excused_outputs.ExcusedOutputs.tick.Goals as goal

pub returns : goal.returns
returns c site kept tick up stands =
    let operations = c.args.done.now in
    let end = c.count_before-end.result in
    let counted = c.count_before-end.ensures in
    record {
      in_order = stands.in_order;
      within = counted.within;
      earlier = earlier_on operations c.args.self.now.in_force end tick c.args.now.0 up stands.earlier counted.earlier;
      later = later_on operations end c.args.now.0 stands.in_order counted.later;
      settings = c.take_each.ensures site kept (counted.from stands.within) stands.settings;
    }
