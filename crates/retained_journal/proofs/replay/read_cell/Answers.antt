use Rattle.std.proofs.Common.{ℕ, subst}
use Rattle.std.proofs.lemmas.Option.{IfSome_then}
use Rattle.retained_journal.specs.Fields.{Agrees}
use Rattle.retained_journal.proofs.Reading.{range_read}
use Rattle.retained_journal.specs.Places.{bytes_of_cell}
use Rattle.retained_journal.proofs.replay.read_cell.Goals as goal

pub returns-clause-ok : goal.returns-clause-ok
returns-clause-ok g c =
    IfSome_then (g.D.Disk.seen c.args.disk.now) c.in_ok-read_at.ensures.ok
    (λ file read. subst (λ (at : ℕ). Agrees bytes_of_cell c.read_at.new.into 0 file at) c.cell_place.ensures
    (range_read bytes_of_cell c.cell_place.result file c.read_at.new.into read))
