use Rattle.std.proofs.Common.{◌<◌, length, arith}
use Rattle.joined_panels.proofs.WaysTaken.{taken_more}
use Rattle.joined_panels.proofs.ways.Ways.take_links.Goals as goal

pub loop-place-preserved : goal.loop-place-preserved
loop-place-preserved c =
    let within : c.loop-place.place < length c.args.self.now.ways = omega arith in
    taken_more _ _ _ _ _ _ c.loop-place.invariant within _ _ _ c.has_way_up-up.ensures c.take.ensures

pub returns : goal.returns
returns c place other l = c.loop-place.invariant.taken place other (omega (arith, l))
