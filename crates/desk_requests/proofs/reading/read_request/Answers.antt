use Rattle.std.proofs.Common.{◌≡◌, ◌<◌, ◌≤◌, arith, ap, length}
use Rattle.std.proofs.lemmas.Grind.{common_steps}
use Rattle.desk_requests.specs.Rooms.{read_into}
use Rattle.desk_requests.proofs.TakenLaws.{head_ended, head_too_long}
use Rattle.desk_requests.proofs.reading.read_request.Goals as goal

pub returns-then-read_so_far-ge-MOST_HEAD_BYTES-clause-takes :
    goal.returns-then-read_so_far-ge-MOST_HEAD_BYTES-clause-takes
returns-then-read_so_far-ge-MOST_HEAD_BYTES-clause-takes g c =
    let test = c.if-read_so_far-ge-MOST_HEAD_BYTES.true in
    let same = ap length c.read_so_far.ensures in
    let full : 8192 ≤ length (read_into c.loop-head.room) = omega (arith, test, same) in
    head_too_long c.args.panels _ _ (read_into c.loop-head.room) c.loop-head.invariant.read c.in-Begun.ensures.0 full

pub returns-in-Ok-eq0-clause-takes : goal.returns-in-Ok-eq0-clause-takes
returns-in-Ok-eq0-clause-takes g c =
    let test = c.if-read_so_far-ge-MOST_HEAD_BYTES.false in
    let same = ap length c.read_so_far.ensures in
    let room : length (read_into c.loop-head.room) < 8192 = omega (arith, test, same) in
    let test0 = c.in-Ok-eq0.field-0-test in
    let none : c.in-Ok-eq0.field-0 ≡ 0 = grind (arith, common_steps, test0) in
    head_ended c.args.panels _ _ _ c.loop-head.room c.read_more.new.self c.in-Ok-eq0.field-0 c.loop-head.invariant.read c.in-Begun.ensures.0
    c.in-Begun.ensures.1 room c.in-Ok-eq0.ensures.gains none
