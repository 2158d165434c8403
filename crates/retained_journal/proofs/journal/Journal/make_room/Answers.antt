use Rattle.std.proofs.Common.{true, arith}
use Rattle.retained_journal.proofs.Calls.{no_moment, other_stands}
use Rattle.retained_journal.proofs.Calls.{sound_begun}
use Rattle.retained_journal.proofs.StepImages.{move_begun}
use Rattle.retained_journal.proofs.journal.Journal.make_room.Goals as goal

pub returns-then-self-lt-MOST_CELLS-clause-moments : goal.returns-then-self-lt-MOST_CELLS-clause-moments
returns-then-self-lt-MOST_CELLS-clause-moments g c honest room =
    no_moment g.D.Disk.honest g.D.Disk.images g.D.Disk.moment g.D.Disk.left_since g.met.D.Disk.only_now c.args.self.now c.args.disk.now
    c.requires.stands honest (omega arith)

pub shut_other-requires : goal.shut_other-requires
shut_other-requires g c =
    let j = c.args.self.now in
    other_stands g.D.Disk.honest g.D.Disk.images j (record j { moving = true }) c.args.disk.now c.requires.stands
    (sound_begun j c.requires.stands.sound c.requires.torn) (λ file was here image. move_begun j file image)
