use Rattle.std.proofs.Common.{arith}
use Rattle.panel_conditions.proofs.PlaceLists.{none_told}
use Rattle.panel_conditions.proofs.told_missing.ToldMissing.none.Goals as goal

pub returns : goal.returns
returns c = none_told c.in_ok-missing.missing c.args.count c.min.result (let size = c.min.ensures in omega (arith, size)) c.in_ok-missing.ensures

pub invariant_of-result : goal.invariant_of-result
invariant_of-result c =
    let size = c.min.ensures in
    let room = c.in_ok-missing.ensures.room in
    (omega (arith, size), omega (arith, size, room))
