use Rattle.std.proofs.Common.{arith}
use Rattle.loop_poller.proofs.BlockGroups.{at_place, four_groups}
use Rattle.loop_poller.proofs.blocks.block_from.Goals as goal

pub returns : goal.returns
returns c =
    let lines = c.args.lines.now in
    let number = c.args.number in
    four_groups lines number _ _ _ _
    (at_place lines 0 number c.index-lines-0.result c.in_ok-whole_group.field-0 (omega arith) c.in_ok-whole_group.ensures)
    (at_place lines 1 number c.index-lines-1.result c.in_ok-whole_group-2.field-0 (omega arith) c.in_ok-whole_group-2.ensures)
    (at_place lines 2 number c.index-lines-2.result c.in_ok-whole_group-3.field-0 (omega arith) c.in_ok-whole_group-3.ensures)
    (at_place lines 3 number c.index-lines-3.result c.in_ok-whole_group-4.field-0 (omega arith) c.in_ok-whole_group-4.ensures)
