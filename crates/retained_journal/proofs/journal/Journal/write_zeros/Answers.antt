use Rattle.std.proofs.Common.{◌≡◌, ℕ, List, subst, arith}
use Rattle.panel_edges.specs.Crashes.{Elapses, Follows}
use Rattle.panel_edges.specs.Disks.{Becomes, Holds, Torn}
use Rattle.retained_journal.specs.declared.journal.Journal.{Journal}
use Rattle.retained_journal.specs.declared.log_gate.LogGate.TheVariants.{Shut}
use Rattle.retained_journal.proofs.Calls.{no_moment, still_stands}
use Rattle.retained_journal.proofs.SparedBytes.{spares_cells}
use Rattle.std.specs.Prelude.{IfSome}
use Rattle.std.proofs.Common.{replicate}
use Rattle.panel_edges.proofs.Moments.{then_more}
use Rattle.retained_journal.specs.Images.{HasZeros, LeavesKept, OpensToKeptOrAttempt, Stands}
use Rattle.retained_journal.proofs.Calls.{write_moments, zeros_more}
use Rattle.retained_journal.proofs.Torn.{Spares}
use Rattle.retained_journal.proofs.SeenFiles.{each_told}
use Rattle.retained_journal.specs.Places.{bytes_of_cell, cell_place}
use Rattle.retained_journal.proofs.journal.Journal.write_zeros.Goals as goal

pub loop-cell-init : goal.loop-cell-init
loop-cell-init g c = record {
  stands = c.requires.stands;
  zeros = λ honest. each_told (g.D.Disk.seen c.args.disk.now) (λ file some. absurd (omega (arith, some)));
  moments = λ honest room. no_moment g.D.Disk.honest g.D.Disk.images g.D.Disk.moment g.D.Disk.left_since g.met.D.Disk.only_now c.args.self.now
      c.args.disk.now c.requires.stands honest room;
  honest = (λ h. h, λ h. h);
  later = omega arith;
}

-- a cell more was written, in the whole or in part
one_more_cell : {D : Type 0} (honest : D → Type 0) (images : D → List ℕ → Type 0) (moment : D → ℕ) (left_since : D → ℕ → List ℕ → Type 0)
    (only_now : (disk : D) (c : List ℕ) → honest disk → left_since disk (moment disk) c → images disk c) (j : Journal) (first old new : D) (at : ℕ)
    → LeavesKept honest moment left_since first old j → Stands honest images old j → Spares j at bytes_of_cell → (honest first → honest old)
    → (honest old → Follows (Torn at bytes_of_cell) (images old) (images new))
    → (honest old → Elapses (moment old) (moment new) (left_since old) (left_since new) (images new)) → LeavesKept honest moment left_since first new j
one_more_cell honest images moment left_since only_now j first old new at before stands spares on crash time h room =
    then_more moment left_since first old new (OpensToKeptOrAttempt j) (before h room)
    (write_moments honest images moment left_since only_now j old new at bytes_of_cell stands spares (on h) room crash (time (on h)))

-- a cell is spared while the log gate is shut
cell_spared : (j : Journal) (at : ℕ) (cell : ℕ) → at ≡ cell_place cell → j.log ≡ Shut → Spares j at bytes_of_cell
cell_spared j at cell there shut = spares_cells j at bytes_of_cell shut (omega (arith, there))

pub loop-cell-preserved : goal.loop-cell-preserved
loop-cell-preserved g c =
    let before = c.loop-cell.invariant in
    let call = c.write_at.ensures in
    let spares = cell_spared c.args.self.now c.cell_place.result c.loop-cell.cell c.cell_place.ensures c.requires.shut in
    record {
      stands =
          still_stands g.D.Disk.honest g.D.Disk.images c.args.self.now c.loop-cell.disk c.write_at.new.self c.cell_place.result bytes_of_cell before.stands
          spares call.honest.0 call.crash;
      zeros = λ honest.
          let was = call.honest.0 honest in
          let file = g.met.D.Disk.reads_as_image c.loop-cell.disk was in
          zeros_more c.loop-cell.cell (g.D.Disk.seen c.loop-cell.disk) (g.D.Disk.seen c.write_at.new.self) file.0 file.1 (before.zeros was)
          (subst (λ (p : ℕ). Becomes (Holds p (replicate bytes_of_cell 0)) (g.D.Disk.seen c.loop-cell.disk) (g.D.Disk.seen c.write_at.new.self))
          c.cell_place.ensures c.in_ok-write_at.ensures.ok);
      moments =
          one_more_cell g.D.Disk.honest g.D.Disk.images g.D.Disk.moment g.D.Disk.left_since g.met.D.Disk.only_now c.args.self.now c.args.disk.now
          c.loop-cell.disk c.write_at.new.self c.cell_place.result before.moments before.stands spares before.honest.1 call.crash call.time;
      honest = (λ h. before.honest.0 (call.honest.0 h), λ h. call.honest.1 (before.honest.1 h));
      later = let l = call.cause.later in let b = before.later in omega (arith, l, b);
    }

pub returns-in_err-write_at-clause-stands : goal.returns-in_err-write_at-clause-stands
returns-in_err-write_at-clause-stands g c =
    still_stands g.D.Disk.honest g.D.Disk.images c.args.self.now c.loop-cell.disk c.write_at.new.self c.cell_place.result bytes_of_cell
    c.loop-cell.invariant.stands (cell_spared c.args.self.now c.cell_place.result c.loop-cell.cell c.cell_place.ensures c.requires.shut)
    c.write_at.ensures.honest.0 c.write_at.ensures.crash

pub returns-in_err-write_at-clause-moments : goal.returns-in_err-write_at-clause-moments
returns-in_err-write_at-clause-moments g c =
    one_more_cell g.D.Disk.honest g.D.Disk.images g.D.Disk.moment g.D.Disk.left_since g.met.D.Disk.only_now c.args.self.now c.args.disk.now
    c.loop-cell.disk c.write_at.new.self c.cell_place.result c.loop-cell.invariant.moments c.loop-cell.invariant.stands
    (cell_spared c.args.self.now c.cell_place.result c.loop-cell.cell c.cell_place.ensures c.requires.shut) c.loop-cell.invariant.honest.1
    c.write_at.ensures.crash c.write_at.ensures.time

pub returns-clause-ok : goal.returns-clause-ok
returns-clause-ok g c honest =
    subst (λ (k : ℕ). IfSome (g.D.Disk.seen c.loop-cell.disk) (HasZeros k)) (omega arith) (c.loop-cell.invariant.zeros honest)
