use Rattle.std.proofs.Common.{arith}
use Rattle.coincidence.proofs.ZoneMasks.{one_point_more}
use Rattle.coincidence.proofs.eight_zones.EightZones.from_place.Goals as goal

pub loop-k-preserved : goal.loop-k-preserved
loop-k-preserved c =
    let l = c.loop-k in
    one_point_more c.args.points.now c.args.zones.now c.args.first l.k l.others c.with_bit_8-others.result c.in_ok-mask.mask c.in_ok-own.own c.in_ok-other.other
    c.in_ok-is_other.is_other c.loop-k-test.true l.invariant c.in_ok-mask.ensures c.in_ok-is_other.ensures c.with_bit_8-others.ensures.this
    c.with_bit_8-others.ensures.others

pub returns : goal.returns
returns c k small = let last = c.loop-k-test.false in c.loop-k.invariant k (omega (arith, small, last))
