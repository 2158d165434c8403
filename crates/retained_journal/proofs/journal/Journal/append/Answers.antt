use Rattle.std.proofs.Common.{subst}
use Rattle.panel_edges.specs.Disks.{Becomes}
use Rattle.retained_journal.specs.Images.{SameFront}
use Rattle.retained_journal.proofs.Calls.{front_kept, fronts}
use Rattle.retained_journal.proofs.journal.Journal.append.Goals as goal

pub returns-in_err-make_room-clause-front : goal.returns-in_err-make_room-clause-front
returns-in_err-make_room-clause-front g c free =
    front_kept (g.D.Disk.seen c.args.disk.now) (g.D.Disk.seen c.make_room.new.disk) (c.make_room.ensures.unwritten free).0

pub returns-in_err-write_cell-clause-front : goal.returns-in_err-write_cell-clause-front
returns-in_err-write_cell-clause-front g c free =
    subst (λ seen. Becomes SameFront seen (g.D.Disk.seen c.write_cell.new.disk)) (c.make_room.ensures.unwritten free).0 c.write_cell.ensures.front

pub returns-clause-front : goal.returns-clause-front
returns-clause-front g c free =
    subst (λ seen. Becomes SameFront seen (g.D.Disk.seen c.open_cell.new.disk)) (c.make_room.ensures.unwritten free).0
    (fronts (g.D.Disk.seen c.make_room.new.disk) (g.D.Disk.seen c.write_cell.new.disk) (g.D.Disk.seen c.open_cell.new.disk) c.write_cell.ensures.front
    c.open_cell.ensures.front)
