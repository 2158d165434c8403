use Rattle.std.proofs.Common.{inl, inr, arith}
use Rattle.retained_journal.proofs.Calls.{attempted_in_turn, begun_number, counts_read}
use Rattle.retained_journal.proofs.Images.{may_leave, opens_whole}
use Rattle.retained_journal.proofs.journal.Journal.commit.Goals as goal

pub returns-clause-opens : goal.returns-clause-opens
returns-clause-opens g c honest room file here =
    let whole = c.in_ok-append.ensures.ok in
    opens_whole c.append.new.self file c.append.ensures.stands.sound (c.append.ensures.stands.each honest file here) room whole.1 whole.2 whole.3

pub returns-in_err-mend-clause-images : goal.returns-in_err-mend-clause-images
returns-in_err-mend-clause-images g c honest room file here =
    may_leave c.mend.new.self file c.mend.ensures.stands.sound (c.mend.ensures.stands.each honest file here) room

pub returns-in_err-append-clause-images : goal.returns-in_err-append-clause-images
returns-in_err-append-clause-images g c honest room file here =
    may_leave c.append.new.self file c.append.ensures.stands.sound (c.append.ensures.stands.each honest file here) room

pub returns-clause-images : goal.returns-clause-images
returns-clause-images g c honest room file here =
    let whole = c.in_ok-append.ensures.ok in
    inl (opens_whole c.append.new.self file c.append.ensures.stands.sound (c.append.ensures.stands.each honest file here) room whole.1 whole.2
    whole.3).0

pub returns-in_err-mend-clause-in_turn : goal.returns-in_err-mend-clause-in_turn
returns-in_err-mend-clause-in_turn g c honest room = inl (c.mend.ensures.same.same_attempt, c.mend.ensures.moments honest (omega (arith, room)))

pub returns-in_err-append-clause-in_turn : goal.returns-in_err-append-clause-in_turn
returns-in_err-append-clause-in_turn g c honest room =
    let is = c.begin.ensures in
    let number = begun_number _ c.mend.new.self c.begin.new.self c.mend.ensures.same is.0 in
    inr (attempted_in_turn _ c.mend.new.self c.begin.new.self c.mend.ensures.same is.0 g.D.Disk.moment g.D.Disk.left_since c.args.disk.now
    c.mend.new.disk c.append.new.disk c.args.batch.now.items c.append.new.self is.1 c.append.ensures.same.same_attempt
    (c.mend.ensures.moments honest (omega (arith, room))) (c.append.ensures.moments (c.mend.ensures.honest.1 honest) (omega (arith, room, number))))

pub returns-clause-in_turn : goal.returns-clause-in_turn
returns-clause-in_turn g c honest room =
    let is = c.begin.ensures in
    let number = begun_number _ c.mend.new.self c.begin.new.self c.mend.ensures.same is.0 in
    inr (attempted_in_turn _ c.mend.new.self c.begin.new.self c.mend.ensures.same is.0 g.D.Disk.moment g.D.Disk.left_since c.args.disk.now
    c.mend.new.disk c.append.new.disk c.args.batch.now.items c.append.new.self is.1 c.append.ensures.same.same_attempt
    (c.mend.ensures.moments honest (omega (arith, room))) (c.append.ensures.moments (c.mend.ensures.honest.1 honest) (omega (arith, room, number))))

pub returns-clause-cells : goal.returns-clause-cells
returns-clause-cells g c honest =
    let whole = c.in_ok-append.ensures.ok in
    counts_read g.D.Disk.honest g.D.Disk.images c.append.new.self c.append.new.disk (g.D.Disk.seen c.append.new.disk) c.append.ensures.stands honest
    (g.met.D.Disk.reads_as_image c.append.new.disk honest) whole.1 whole.2 whole.3
