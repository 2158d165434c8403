use Rattle.std.proofs.Common.{◌≡◌, ◌<◌, ◌+◌, arith, ap, length}
use Rattle.std.proofs.lemmas.Grind.{common_steps}
use Rattle.desk_requests.specs.Rooms.{read_into}
use Rattle.desk_requests.proofs.TakenLaws.{body_broken, body_ended}
use Rattle.desk_requests.proofs.reading.read_body.Goals as goal

pub returns-in-Ok-eq0-clause-takes : goal.returns-in-Ok-eq0-clause-takes
returns-in-Ok-eq0-clause-takes g c =
    let test = c.loop-room-test.true in
    let same = ap length c.read_so_far.ensures in
    let short : length (read_into c.loop-room.room) < c.args.head + c.args.asking.length = omega (arith, test, same) in
    let test0 = c.in-Ok-eq0.field-0-test in
    let none : c.in-Ok-eq0.field-0 ≡ 0 = grind (arith, common_steps, test0) in
    body_ended c.args.panels c.args.head c.args.asking _ _ _ _ c.loop-room.room c.read_more.new.self c.in-Ok-eq0.field-0 c.requires
    c.loop-room.invariant.read short c.in-Ok-eq0.ensures.gains none

pub returns-in-Err-clause-takes : goal.returns-in-Err-clause-takes
returns-in-Err-clause-takes g c =
    let test = c.loop-room-test.true in
    let same = ap length c.read_so_far.ensures in
    let short : length (read_into c.loop-room.room) < c.args.head + c.args.asking.length = omega (arith, test, same) in
    body_broken c.args.panels c.args.head c.args.asking _ _ _ _ c.loop-room.room c.read_more.new.self c.requires c.loop-room.invariant.read short
    c.in-Err.ensures.err.0 c.in-Err.ensures.err.1
