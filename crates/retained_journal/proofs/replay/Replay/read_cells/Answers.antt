use Rattle.std.proofs.Common.{◌≡◌, ◌≢◌, ◌+◌, refl, sym, ap, ◌∙◌, subst, arith}
use Rattle.std.proofs.lemmas.Option.{IfSome_then}
use Rattle.std.specs.Prelude.{IfSome, Ok}
use Rattle.retained_journal.specs.Fields.{Agrees}
use Rattle.retained_journal.specs.Places.{cell_place}
use Rattle.retained_journal.specs.Places.{bytes_of_cell}
use Rattle.retained_journal.specs.Replays.{EndsReplay, HasReplayed, RefusesReplay, TakesCell}
use Rattle.retained_journal.proofs.Replaying.{replay_ends, replay_refuses, replay_stops, replayed_more, replayed_none}
use Rattle.retained_journal.specs.declared.replay.Replay.{Replay}
use Rattle.retained_journal.specs.declared.open_refusal.OpenRefusal.TheVariants.{DiskFault}
use Rattle.retained_journal.proofs.Refused.{handed_on}
use Rattle.retained_journal.proofs.SeenFiles.{both_told, each_told}
use Rattle.retained_journal.proofs.Calls.{still_nothing_new, nothing_new}
use Rattle.retained_journal.specs.Cells.{cell_changes}
use Rattle.retained_journal.specs.Slots.{IsKeepable}
use Rattle.retained_journal.proofs.Keeping.{can_keep_cell, keeps-batch}
use Rattle.retained_journal.proofs.replay.Replay.read_cells.Goals as goal

pub loop-cell-init : goal.loop-cell-init
loop-cell-init g c = record {
  replayed = each_told (g.D.Disk.seen c.args.disk.now) (λ file. replayed_none file c.args.self.now c.requires.begun.0);
  cells = c.requires.begun.0;
  number = omega arith;
  wide = refl;
  keeps = c.requires.keeps;
  shut = c.requires.begun.1;
  seen = refl;
  honest = (λ h. h, λ h. h);
  crash = λ honest file image. image;
  moments = λ honest. nothing_new g.D.Disk.honest g.D.Disk.images g.D.Disk.moment g.D.Disk.left_since g.met.D.Disk.only_now c.args.disk.now honest;
  later = omega arith;
}

pub loop-cell-preserved : goal.loop-cell-preserved
loop-cell-preserved g c =
    let before = c.loop-cell.invariant in
    let took = subst (λ b. TakesCell c.loop-cell.self c.in_ok-bytes.bytes (Ok b) c.take.new.self) c.if-not-branch.false c.in_ok-take.ensures in
    let read = c.read_cell.ensures in
    let numbers = ap (λ (r : Replay). r.number) took.2 in
    let cells = ap (λ (r : Replay). r.cells) took.2 in
    record {
      replayed =
          both_told (g.D.Disk.seen c.args.disk.now) before.replayed
          (subst (λ seen. IfSome seen (λ file. Agrees bytes_of_cell c.in_ok-bytes.bytes 0 file (cell_place c.loop-cell.cell))) before.seen
          c.in_ok-bytes.ensures.ok)
          (λ file replayed agrees. subst (λ new. HasReplayed file c.args.self.now new (c.loop-cell.cell + 1)) (sym took.2)
          (replayed_more file c.in_ok-bytes.bytes c.args.self.now c.loop-cell.self c.loop-cell.cell replayed agrees took.0 took.1));
      cells = omega (arith, cells, before.cells);
      number = omega (arith, numbers, before.number);
      wide = ap (λ (r : Replay). r.wide) took.2 ∙ before.wide;
      keeps =
          subst (λ (r : Replay). IsKeepable r.wide r.kept) (sym took.2)
          (keeps-batch c.loop-cell.self.wide (cell_changes 0 c.in_ok-bytes.bytes) c.loop-cell.self.kept
          (can_keep_cell c.loop-cell.self.wide 0 c.in_ok-bytes.bytes took.1) before.keeps);
      shut = ap (λ (r : Replay). r.is_next_open) took.2 ∙ before.shut;
      seen = read.seen ∙ before.seen;
      honest = (λ h. before.honest.0 (read.honest.0 h), λ h. read.honest.1 (before.honest.1 h));
      crash = λ honest file image. before.crash honest file (read.crash (before.honest.1 honest) file image);
      moments = λ honest. still_nothing_new g.D.Disk.moment g.D.Disk.left_since g.D.Disk.images c.args.disk.now c.loop-cell.disk c.read_cell.new.disk
          (before.crash honest) (before.moments honest) (read.moments (before.honest.1 honest));
      later = omega (arith, before.later, read.cause.later);
    }

pub returns-then-not-branch-clause-keeps : goal.returns-then-not-branch-clause-keeps
returns-then-not-branch-clause-keeps g c =
    let took = subst (λ b. TakesCell c.loop-cell.self c.in_ok-bytes.bytes (Ok b) c.take.new.self) c.if-not-branch.true c.in_ok-take.ensures in
    subst (λ (r : Replay). IsKeepable r.wide r.kept) (sym took.1) c.loop-cell.invariant.keeps

pub returns-then-not-branch-clause-ok : goal.returns-then-not-branch-clause-ok
returns-then-not-branch-clause-ok g c =
    let before = c.loop-cell.invariant in
    let took = subst (λ b. TakesCell c.loop-cell.self c.in_ok-bytes.bytes (Ok b) c.take.new.self) c.if-not-branch.true c.in_ok-take.ensures in
    both_told (g.D.Disk.seen c.args.disk.now) before.replayed
    (subst (λ seen. IfSome seen (λ file. Agrees bytes_of_cell c.in_ok-bytes.bytes 0 file (cell_place c.loop-cell.cell))) before.seen
    c.in_ok-bytes.ensures.ok)
    (λ file replayed agrees. subst (λ new. EndsReplay file c.args.self.now new) (sym took.1)
    (replay_stops file c.in_ok-bytes.bytes c.args.self.now c.loop-cell.self c.loop-cell.cell replayed agrees c.loop-cell-test.true took.0))

pub returns-clause-ok : goal.returns-clause-ok
returns-clause-ok g c =
    let before = c.loop-cell.invariant in
    IfSome_then (g.D.Disk.seen c.args.disk.now) before.replayed
    (λ file replayed.
    replay_ends file c.args.self.now c.loop-cell.self (subst (λ n. HasReplayed file c.args.self.now c.loop-cell.self n) (omega arith) replayed)
    before.shut)

pub returns-in_err-take-clause-err : goal.returns-in_err-take-clause-err
returns-in_err-take-clause-err g c =
    let before = c.loop-cell.invariant in
    let took = c.in_err-take.ensures in
    handed_on c.from_residual-in_err-take.result (λ e. e ≡ c.in_err-take.field-0.0)
    (λ e. e ≢ DiskFault → IfSome (g.D.Disk.seen c.args.disk.now) (λ file. RefusesReplay file c.args.self.now e))
    c.from_residual-in_err-take.ensures.1
    (λ e same no_fault.
    both_told (g.D.Disk.seen c.args.disk.now) before.replayed
    (subst (λ seen. IfSome seen (λ file. Agrees bytes_of_cell c.in_ok-bytes.bytes 0 file (cell_place c.loop-cell.cell))) before.seen
    c.in_ok-bytes.ensures.ok)
    (λ file replayed agrees. subst (λ r. RefusesReplay file c.args.self.now r) (sym (same ∙ took.1.3))
    (replay_refuses file c.in_ok-bytes.bytes c.args.self.now c.loop-cell.self c.loop-cell.cell replayed agrees c.loop-cell-test.true took.0 took.1.0
    took.1.1 took.1.2)))
