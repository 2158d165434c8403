use Rattle.std.proofs.Common.{ap, arith, length}
use Rattle.std.proofs.lemmas.Grind.{common_steps}
use Rattle.node_inputs.proofs.WholeInputs.{read_enough, read_to_end}
use Rattle.node_inputs.proofs.reading.read_whole.Goals as goal

pub returns-then-count-eq0-clause-read : goal.returns-then-count-eq0-clause-read
returns-then-count-eq0-clause-read g c =
    let test = c.if-count-eq0.true in
    read_to_end _ _ _ c.loop-room.room c.read_more.new.self c.in_ok-count.count c.loop-room.invariant.read c.read_more.ensures.bound
    c.in_ok-count.ensures.gains (grind (arith, common_steps, test))

pub returns-clause-read : goal.returns-clause-read
returns-clause-read g c =
    let test = c.loop-room-test.false in
    let same = ap length c.read_so_far.ensures in
    let within = c.loop-room.invariant.within in
    read_enough _ _ _ c.loop-room.invariant.read (omega (arith, test, same, within))
