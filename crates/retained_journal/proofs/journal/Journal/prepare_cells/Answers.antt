use Rattle.retained_journal.proofs.Calls.{no_moment}
use Rattle.retained_journal.proofs.journal.Journal.prepare_cells.Goals as goal

pub returns-in-Ready-clause-moments : goal.returns-in-Ready-clause-moments
returns-in-Ready-clause-moments g c honest room =
    no_moment g.D.Disk.honest g.D.Disk.images g.D.Disk.moment g.D.Disk.left_since g.met.D.Disk.only_now c.args.self.now c.args.disk.now c.requires
    honest room

pub returns-in-Open-clause-moments : goal.returns-in-Open-clause-moments
returns-in-Open-clause-moments g c honest room =
    no_moment g.D.Disk.honest g.D.Disk.images g.D.Disk.moment g.D.Disk.left_since g.met.D.Disk.only_now c.args.self.now c.args.disk.now c.requires
    honest room
