use Rattle.std.proofs.Common.{◌≡◌, ◌≤◌, ℕ, false, [], ◌∷◌, length, slice_index, subst, arith}
use Rattle.panel_edges.specs.Disks.{Becomes, Holds}
use Rattle.retained_journal.specs.declared.log_gate.LogGate.TheVariants.{Ready}
use Rattle.retained_journal.specs.Places.{cell_place}
use Rattle.retained_journal.proofs.Calls.{other_stands, still_stands, then_moments}
use Rattle.retained_journal.proofs.SparedBytes.{spares_cells}
use Rattle.retained_journal.proofs.StepImages.{cells_ready}
use Rattle.retained_journal.proofs.Calls.{all_zero, only_so, sound_ready}
use Rattle.retained_journal.specs.Places.{whole_bytes}
use Rattle.retained_journal.proofs.journal.Journal.zero_cells.Goals as goal

pub returns-in_err-write_synced-clause-stands : goal.returns-in_err-write_synced-clause-stands
returns-in_err-write_synced-clause-stands g c =
    still_stands g.D.Disk.honest g.D.Disk.images c.args.self.now c.write_zeros.new.disk c.write_synced.new.disk c.cell_place.result 1
    c.write_zeros.ensures.stands (spares_cells c.args.self.now c.cell_place.result 1 c.requires.shut (let e = c.cell_place.ensures in omega (arith, e)))
    c.write_synced.ensures.honest.0 c.write_synced.ensures.crash

pub returns-in_err-write_synced-clause-moments : goal.returns-in_err-write_synced-clause-moments
returns-in_err-write_synced-clause-moments g c honest room =
    then_moments g.D.Disk.honest g.D.Disk.images g.D.Disk.moment g.D.Disk.left_since g.met.D.Disk.only_now c.args.self.now
    c.args.disk.now c.write_zeros.new.disk c.write_synced.new.disk c.cell_place.result 1 (c.write_zeros.ensures.moments honest)
    c.write_zeros.ensures.stands (spares_cells c.args.self.now c.cell_place.result 1 c.requires.shut (let e = c.cell_place.ensures in omega (arith, e)))
    (c.write_zeros.ensures.honest.1 honest) room (c.write_synced.ensures.time (c.write_zeros.ensures.honest.1 honest))

pub returns-clause-moments : goal.returns-clause-moments
returns-clause-moments g c honest room =
    then_moments g.D.Disk.honest g.D.Disk.images g.D.Disk.moment g.D.Disk.left_since g.met.D.Disk.only_now c.args.self.now
    c.args.disk.now c.write_zeros.new.disk c.write_synced.new.disk c.cell_place.result 1 (c.write_zeros.ensures.moments honest)
    c.write_zeros.ensures.stands (spares_cells c.args.self.now c.cell_place.result 1 c.requires.shut (let e = c.cell_place.ensures in omega (arith, e)))
    (c.write_zeros.ensures.honest.1 honest) room (c.write_synced.ensures.time (c.write_zeros.ensures.honest.1 honest))

pub returns-clause-stands : goal.returns-clause-stands
returns-clause-stands g c =
    let j = c.args.self.now in
    let call = c.write_synced.ensures in
    let stands =
    still_stands g.D.Disk.honest g.D.Disk.images j c.write_zeros.new.disk c.write_synced.new.disk c.cell_place.result 1 c.write_zeros.ensures.stands
    (spares_cells c.args.self.now c.cell_place.result 1 c.requires.shut (let e = c.cell_place.ensures in omega (arith, e))) call.honest.0 call.crash in
    other_stands g.D.Disk.honest g.D.Disk.images j (record j { log = Ready; cell_may_be_open = false }) c.write_synced.new.disk stands
    (sound_ready j c.requires.stands.sound c.requires.shut)
    (λ file honest here image.
    let was = call.honest.0 honest in
    let old = g.met.D.Disk.reads_as_image c.write_zeros.new.disk was in
    let new' = g.met.D.Disk.reads_as_image c.write_synced.new.disk honest in
    let all = all_zero (g.D.Disk.seen c.write_zeros.new.disk) (g.D.Disk.seen c.write_synced.new.disk) old.0 old.1 (c.in_ok-write_zeros.ensures.ok was)
    (subst (λ (p : ℕ). Becomes (Holds p (0 ∷ [])) (g.D.Disk.seen c.write_zeros.new.disk) (g.D.Disk.seen c.write_synced.new.disk)) c.cell_place.ensures
    c.in_ok-write_synced.ensures.ok) in
    let so =
    only_so (g.D.Disk.seen c.write_synced.new.disk) new'.0 (g.D.Disk.images c.write_synced.new.disk) (λ f. (slice_index f (cell_place 0) ≡ 0)
    × (whole_bytes ≤ length f)) new'.1 all (c.in_ok-write_synced.ensures.durable was) file here in
    cells_ready j file image c.requires.shut so.1 so.0)
