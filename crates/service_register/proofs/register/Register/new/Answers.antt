use Rattle.std.proofs.Common.{arith, length, ap}
use Rattle.service_register.proofs.PlaceByPlace.{few_listed}
use Rattle.service_register.proofs.register.Register.new.Goals as goal

pub invariant_of-result : goal.invariant_of-result
invariant_of-result c =
    let few = few_listed c.args.site.now c.loop-point.points.items c.loop-point.point-index c.requires c.loop-point.invariant in
    let same = ap length c.from_vec.ensures in
    omega (arith, few, same)
