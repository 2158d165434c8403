use Rattle.retained_journal.proofs.Calls.{no_moment}
use Rattle.retained_journal.proofs.journal.Journal.end_move.Goals as goal

pub returns-else-self-clause-moments : goal.returns-else-self-clause-moments
returns-else-self-clause-moments g c honest room =
    no_moment g.D.Disk.honest g.D.Disk.images g.D.Disk.moment g.D.Disk.left_since g.met.D.Disk.only_now c.args.self.now c.args.disk.now c.requires
    honest room
