use Rattle.coincidence.proofs.GoingOn.{fewer_go_on}
use Rattle.coincidence.proofs.ZoneParts.{EndsPart, all_told, none_told, part_told, part_within, room_for_part}
use Rattle.coincidence.proofs.decide.Decide.tell_going_on.Goals as goal

pub loop-left-init : goal.loop-left-init
loop-left-init c = none_told c.args.self.now c.args.run.now c.args.findings.now c.args.changing c.requires.some

pub part_going_on-part-requires-clause-going : goal.part_going_on-part-requires-clause-going
part_going_on-part-requires-clause-going c =
    fewer_go_on c.args.self.now c.args.run.now c.args.changing c.loop-left.left c.requires.going c.loop-left.invariant.among

pub put_eight-requires-clause-room : goal.put_eight-requires-clause-room
put_eight-requires-clause-room c =
    let h = c.loop-left.invariant in
    let low = c.lowest_bit_or.ensures in
    let ends : EndsPart c.args.run.now.count c.part_going_on-part.result.behind c.lowest_bit_or.result =
    record { set = low.set; none = low.none; otherwise = low.otherwise } in
    let within = part_within h c.requires.tells c.part_going_on-part.result c.part_going_on-part.ensures c.lowest_bit_or.result ends in
    room_for_part h c.requires.can.may c.requires.can.room _ within.1

pub loop-left-preserved : goal.loop-left-preserved
loop-left-preserved c =
    let h = c.loop-left.invariant in
    let low = c.lowest_bit_or.ensures in
    let ends : EndsPart c.args.run.now.count c.part_going_on-part.result.behind c.lowest_bit_or.result =
    record { set = low.set; none = low.none; otherwise = low.otherwise } in
    part_told h c.requires.tells c.part_going_on-part.result c.part_going_on-part.ensures c.lowest_bit_or.result ends c.telling_group.result
    c.telling_group.ensures c.put_eight.new.findings c.put_eight.ensures

pub returns : goal.returns
returns c = all_told c.loop-left.invariant c.loop-left-test.false
