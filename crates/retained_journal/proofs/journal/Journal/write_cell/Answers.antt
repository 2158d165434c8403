use Rattle.std.proofs.Common.{◌≡◌, ◌+◌, drop, take, length, sym, ◌∙◌, subst, arith}
use Rattle.std.proofs.lemmas.Result.{on_ok_weaker}
use Rattle.retained_journal.specs.Batches.{IsBatch}
use Rattle.retained_journal.proofs.Calls.{either_front, its_moments, still_stands}
use Rattle.retained_journal.proofs.SparedBytes.{spares_next_body}
use Rattle.retained_journal.proofs.WrittenParts.{cell_written, tail_size}
use Rattle.retained_journal.specs.Places.{bytes_of_cell}
use Rattle.retained_journal.proofs.journal.Journal.write_cell.Goals as goal

pub returns-clause-stands : goal.returns-clause-stands
returns-clause-stands g c =
    let cell = c.cell_bytes-cell.result in
    still_stands g.D.Disk.honest g.D.Disk.images c.args.self.now c.args.disk.now c.write_synced.new.disk (c.cell_place.result + 1)
    (length (take bytes_of_cell (drop 1 cell))) c.requires.stands
    (spares_next_body c.args.self.now c.cell_place.result _ c.cell_place.ensures (tail_size bytes_of_cell cell (omega arith)) c.requires.shut)
    c.write_synced.ensures.honest.0 c.write_synced.ensures.crash

pub returns-clause-moments : goal.returns-clause-moments
returns-clause-moments g c honest room =
    let cell = c.cell_bytes-cell.result in
    its_moments g.D.Disk.honest g.D.Disk.images g.D.Disk.moment g.D.Disk.left_since g.met.D.Disk.only_now c.args.self.now c.args.disk.now
    c.write_synced.new.disk (c.cell_place.result + 1) (length (take bytes_of_cell (drop 1 cell))) c.requires.stands
    (spares_next_body c.args.self.now c.cell_place.result _ c.cell_place.ensures (tail_size bytes_of_cell cell (omega arith)) c.requires.shut)
    honest room (c.write_synced.ensures.time honest)

pub returns-clause-ok : goal.returns-clause-ok
returns-clause-ok g c honest =
    let j = c.args.self.now in
    let buf = c.cell_bytes-cell.result in
    let long : length buf ≡ bytes_of_cell + 1 = omega arith in
    on_ok_weaker c.write_synced.result (λ follows file here. let was = follows file here in
    cell_written j buf was.0 file c.cell_place.result c.cell_place.ensures long was.2 c.cell_bytes-cell.ensures.number
    (c.cell_bytes-cell.ensures.form j.wide (subst (IsBatch j.wide) (sym c.as_slice.ensures.value) c.requires.batch))
    (c.cell_bytes-cell.ensures.changes ∙ c.as_slice.ensures.value) c.cell_bytes-cell.ensures.shut) (c.write_synced.ensures.stands honest)

pub returns-clause-front : goal.returns-clause-front
returns-clause-front g c =
    either_front c.write_synced.result (c.cell_place.result + 1) _ (g.D.Disk.seen c.args.disk.now) (g.D.Disk.seen c.write_synced.new.disk) (let e =
    c.cell_place.ensures in omega (arith, e)) c.write_synced.ensures.ok c.write_synced.ensures.err
