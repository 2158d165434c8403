use Rattle.std.proofs.Common.{inl}
use Rattle.panel_edges.proofs.Moments.{stays}
use Rattle.retained_journal.specs.Images.{MayLeave}
use Rattle.retained_journal.proofs.Calls.{counts_read}
use Rattle.retained_journal.proofs.Images.{may_leave, opens_whole}
use Rattle.retained_journal.proofs.journal.Journal.mend.Goals as goal

pub returns-in_ok-make_whole-clause-opens : goal.returns-in_ok-make_whole-clause-opens
returns-in_ok-make_whole-clause-opens g c honest room file here =
    let whole = c.in_ok-make_whole.ensures.ok in
    opens_whole c.make_whole.new.self file c.make_whole.ensures.stands.sound (c.make_whole.ensures.stands.each honest file here) room whole.0 whole.1
    whole.2

pub returns-else-self-clause-opens : goal.returns-else-self-clause-opens
returns-else-self-clause-opens g c honest room file here =
    let whole = c.requires.sound.untorn c.if-self.false in
    opens_whole c.args.self.now file c.requires.sound (c.requires.each honest file here) room whole.0 whole.1 whole.2

pub returns-else-self-clause-moments : goal.returns-else-self-clause-moments
returns-else-self-clause-moments g c honest room =
    let whole = c.requires.sound.untorn c.if-self.false in
    stays g.D.Disk.moment g.D.Disk.left_since c.args.disk.now (MayLeave c.args.self.now)
    (λ file left.
    inl (opens_whole c.args.self.now file c.requires.sound (c.requires.each honest file (g.met.D.Disk.only_now c.args.disk.now file honest left))
    room whole.0 whole.1 whole.2).0)

pub returns-in_err-make_whole-clause-images : goal.returns-in_err-make_whole-clause-images
returns-in_err-make_whole-clause-images g c honest room file here =
    may_leave c.make_whole.new.self file c.make_whole.ensures.stands.sound (c.make_whole.ensures.stands.each honest file here) room

pub returns-in_ok-make_whole-clause-images : goal.returns-in_ok-make_whole-clause-images
returns-in_ok-make_whole-clause-images g c honest room file here =
    let whole = c.in_ok-make_whole.ensures.ok in
    inl (opens_whole c.make_whole.new.self file c.make_whole.ensures.stands.sound (c.make_whole.ensures.stands.each honest file here) room whole.0
    whole.1 whole.2).0

pub returns-else-self-clause-images : goal.returns-else-self-clause-images
returns-else-self-clause-images g c honest room file here = may_leave c.args.self.now file c.requires.sound (c.requires.each honest file here) room

pub returns-in_ok-make_whole-clause-cells : goal.returns-in_ok-make_whole-clause-cells
returns-in_ok-make_whole-clause-cells g c honest =
    let whole = c.in_ok-make_whole.ensures.ok in
    counts_read g.D.Disk.honest g.D.Disk.images c.make_whole.new.self c.make_whole.new.disk (g.D.Disk.seen c.make_whole.new.disk)
    c.make_whole.ensures.stands honest (g.met.D.Disk.reads_as_image c.make_whole.new.disk honest) whole.0 whole.1 whole.2

pub returns-else-self-clause-cells : goal.returns-else-self-clause-cells
returns-else-self-clause-cells g c honest =
    let whole = c.requires.sound.untorn c.if-self.false in
    counts_read g.D.Disk.honest g.D.Disk.images c.args.self.now c.args.disk.now (g.D.Disk.seen c.args.disk.now) c.requires honest
    (g.met.D.Disk.reads_as_image c.args.disk.now honest) whole.0 whole.1 whole.2
