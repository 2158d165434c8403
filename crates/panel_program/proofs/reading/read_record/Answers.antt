use Rattle.std.proofs.Common.{◌≡◌, ◌<◌, ◌≤◌, ◌+◌, ◌-◌, ℕ, List, [], length, min, take, Ok, Option, refl, sym, subst, arith}
use Rattle.panel_edges.specs.Limits.{most_record_bytes}
use Rattle.std.proofs.lemmas.Result.{err_from_is_err_and}
use Rattle.panel_program.specs.declared.run_end.RunEnd.{RunEnd}
use Rattle.panel_program.specs.Ahead.{piece_bytes}
use Rattle.site_run.specs.Outside.{disks_of, outside_after, outside_before}
use Rattle.site_run.specs.Records.{at_beginning}
use Rattle.panel_program.specs.Runs.{ReadsRecord}
use Rattle.panel_program.specs.Taking.{TakesPiece}
use Rattle.site_run.proofs.Disks.{keeps_more, keeps_same}
use Rattle.panel_program.proofs.Pieces.{SoFar}
use Rattle.panel_program.proofs.Readings.{begins_at, fault_ends, input_ends, limit_ends, may_piece, piece_breaks, piece_ends, piece_more, piece_within, reads_on, so_far_none, still_within}
use Rattle.site_run.proofs.Written.{some_weaker}
use Rattle.panel_program.proofs.reading.read_record.Goals as goal

-- a piece stays within the bytes that a record may have
piece_fits : (read most count : ℕ) (piece : List ℕ) → read < most_record_bytes → most ≡ min 4096 (most_record_bytes - read) → count ≤ most
    → length piece ≡ count → read + length piece ≤ most_record_bytes
piece_fits read most count piece less most_is bound is = omega (arith, less, most_is, bound, is)

-- and is no longer than what is read at a time
piece_short : (read most count : ℕ) (piece : List ℕ) → most ≡ min 4096 (most_record_bytes - read) → count ≤ most → length piece ≡ count → length piece ≤ piece_bytes
piece_short read most count piece most_is bound is = omega (arith, most_is, bound, is)

pub loop-read-init : goal.loop-read-init
loop-read-init g c =
    let begins = c.requires.begins in
    let reads = c.new-reader.ensures in
    record {
      at = record {
        site = begins.0;
        kept = begins.1;
        bytes = [];
        p = at_beginning;
        is_at = begins_at begins.0 begins.1 c.new-reader.result c.args.run.now (reads begins.0) begins.2;
        count = refl;
      };
      few = omega arith;
      reads = omega arith;
      writes = omega arith;
      disk = keeps_same g.D.Disk.honest g.D.Disk.images g.D.Disk.faults c.args.disk.now c.args.run.now c.args.run.now refl refl c.requires.stands;
      so_far = λ site kept h. so_far_none site kept (g.S.Stream.left c.args.input.now)
          (outside_before (disks_of g.D.Disk.honest g.D.Disk.images g.D.Disk.moment g.D.Disk.left_since c.args.disk.now c.args.disk.now) (g.K.Stream.written c.args.out.now) c.args.run.now)
          c.new-reader.result c.args.run.now
          (begins_at site kept c.new-reader.result c.args.run.now (reads site) h);
    }

pub returns-in_default-clause-reads : goal.returns-in_default-clause-reads
returns-in_default-clause-reads g c site kept h =
    let left = g.S.Stream.left c.loop-read.input in
    let disks = disks_of g.D.Disk.honest g.D.Disk.images g.D.Disk.moment g.D.Disk.left_since c.args.disk.now c.loop-read.disk in
    let old = outside_before disks (g.K.Stream.written c.args.out.now) c.args.run.now in
    let mid = outside_after disks (g.K.Stream.written c.loop-read.out) c.loop-read.run in
    some_weaker (g.S.Stream.left c.args.input.now)
    (λ bytes (s : SoFar site kept bytes left old mid c.loop-read.reader c.loop-read.run c.loop-read.read).
    fault_ends site kept bytes left old mid c.loop-read.reader c.loop-read.run c.loop-read.read s (g.S.Stream.left c.read_piece.new.input)
    c.in_default.ensures.err)
    (c.loop-read.invariant.so_far site kept h)

pub returns-then-count-eq0-clause-reads : goal.returns-then-count-eq0-clause-reads
returns-then-count-eq0-clause-reads g c site kept h =
    let left = g.S.Stream.left c.loop-read.input in
    let disks = disks_of g.D.Disk.honest g.D.Disk.images g.D.Disk.moment g.D.Disk.left_since c.args.disk.now c.loop-read.disk in
    let old = outside_before disks (g.K.Stream.written c.args.out.now) c.args.run.now in
    let mid = outside_after disks (g.K.Stream.written c.loop-read.out) c.loop-read.run in
    let lt = c.loop-read-test.true in
    some_weaker (g.S.Stream.left c.args.input.now)
    (λ bytes (s : SoFar site kept bytes left old mid c.loop-read.reader c.loop-read.run c.loop-read.read).
    input_ends site kept bytes left old mid c.loop-read.reader c.loop-read.run c.loop-read.read s c.finish.result c.in-Ok.count
    (take c.in-Ok.count c.read_piece.new.buffer) (g.S.Stream.left c.read_piece.new.input) c.in-Ok.ensures.bytes
    (piece_short c.loop-read.read c.min-most.result c.in-Ok.count (take c.in-Ok.count c.read_piece.new.buffer) c.min-most.ensures c.in-Ok.ensures.bound
    c.in-Ok.ensures.count) (omega (arith, lt)) c.in-Ok.ensures.ends c.if-count-eq0.true
    (c.finish.ensures site s.consumed s.is_at.reads s.is_at.going))
    (c.loop-read.invariant.so_far site kept h)

pub take_piece-requires-clause-may : goal.take_piece-requires-clause-may
take_piece-requires-clause-may g c =
    let piece = take c.in-Ok.count c.read_piece.new.buffer in
    let fits = piece_fits c.loop-read.read c.min-most.result c.in-Ok.count piece c.loop-read-test.true c.min-most.ensures c.in-Ok.ensures.bound
    c.in-Ok.ensures.count in
    may_piece c.loop-read.read piece c.loop-read.reader c.loop-read.run c.loop-read.invariant.at fits

pub returns-in_err-end-clause-reads : goal.returns-in_err-end-clause-reads
returns-in_err-end-clause-reads g c site kept h =
    let left = g.S.Stream.left c.loop-read.input in
    let whole = disks_of g.D.Disk.honest g.D.Disk.images g.D.Disk.moment g.D.Disk.left_since c.args.disk.now c.take_piece.new.disk in
    let old = outside_before whole (g.K.Stream.written c.args.out.now) c.args.run.now in
    let mid = outside_after (disks_of g.D.Disk.honest g.D.Disk.images g.D.Disk.moment g.D.Disk.left_since c.args.disk.now c.loop-read.disk) (g.K.Stream.written c.loop-read.out) c.loop-read.run in
    let new = outside_after whole (g.K.Stream.written c.take_piece.new.out) c.take_piece.new.run in
    let left' = g.S.Stream.left c.read_piece.new.input in
    let piece = take c.in-Ok.count c.read_piece.new.buffer in
    let q = err_from_is_err_and c.from_residual.result c.from_residual.ensures.1 in
    let fits = piece_fits c.loop-read.read c.min-most.result c.in-Ok.count piece c.loop-read-test.true c.min-most.ensures c.in-Ok.ensures.bound
    c.in-Ok.ensures.count in
    some_weaker (g.S.Stream.left c.args.input.now)
    (λ bytes (s : SoFar site kept bytes left old mid c.loop-read.reader c.loop-read.run c.loop-read.read).
    let within = piece_within site kept bytes left old mid c.loop-read.reader c.loop-read.run c.loop-read.read s piece fits in
    subst (ReadsRecord site kept bytes left' old new c.take_piece.new.run) (sym q.1)
    (piece_breaks site kept bytes left old mid c.loop-read.reader c.loop-read.run c.loop-read.read s piece left' new
    c.take_piece.new.run c.in-Ok.ensures.bytes
    (piece_short c.loop-read.read c.min-most.result c.in-Ok.count piece c.min-most.ensures c.in-Ok.ensures.bound c.in-Ok.ensures.count) fits
    (c.in_err-end.ensures.takes site kept s.consumed s.now s.is_at within)))
    (c.loop-read.invariant.so_far site kept h)

pub returns-in-Some-clause-reads : goal.returns-in-Some-clause-reads
returns-in-Some-clause-reads g c site kept h =
    let left = g.S.Stream.left c.loop-read.input in
    let whole = disks_of g.D.Disk.honest g.D.Disk.images g.D.Disk.moment g.D.Disk.left_since c.args.disk.now c.take_piece.new.disk in
    let old = outside_before whole (g.K.Stream.written c.args.out.now) c.args.run.now in
    let mid = outside_after (disks_of g.D.Disk.honest g.D.Disk.images g.D.Disk.moment g.D.Disk.left_since c.args.disk.now c.loop-read.disk) (g.K.Stream.written c.loop-read.out) c.loop-read.run in
    let new = outside_after whole (g.K.Stream.written c.take_piece.new.out) c.take_piece.new.run in
    let piece = take c.in-Ok.count c.read_piece.new.buffer in
    let fits = piece_fits c.loop-read.read c.min-most.result c.in-Ok.count piece c.loop-read-test.true c.min-most.ensures c.in-Ok.ensures.bound
    c.in-Ok.ensures.count in
    some_weaker (g.S.Stream.left c.args.input.now)
    (λ bytes (s : SoFar site kept bytes left old mid c.loop-read.reader c.loop-read.run c.loop-read.read).
    let within = piece_within site kept bytes left old mid c.loop-read.reader c.loop-read.run c.loop-read.read s piece fits in
    let ended =
    subst (λ (o : Option RunEnd). TakesPiece site kept s.now s.consumed piece mid new c.take_piece.new.reader c.take_piece.new.run (Ok o)) c.in-Some.is
    (c.in_ok-end.ensures.takes site kept s.consumed s.now s.is_at within) in
    piece_ends site kept bytes left old mid c.loop-read.reader c.loop-read.run c.loop-read.read s piece (g.S.Stream.left c.read_piece.new.input) new c.take_piece.new.run
    c.in-Some.end c.in-Ok.ensures.bytes
    (piece_short c.loop-read.read c.min-most.result c.in-Ok.count piece c.min-most.ensures c.in-Ok.ensures.bound c.in-Ok.ensures.count) fits ended)
    (c.loop-read.invariant.so_far site kept h)

pub returns-in_err-end-clause-disk : goal.returns-in_err-end-clause-disk
returns-in_err-end-clause-disk g c =
    keeps_more g.D.Disk.honest g.D.Disk.images g.D.Disk.faults c.args.disk.now c.loop-read.disk c.take_piece.new.disk c.args.run.now c.loop-read.run
    c.take_piece.new.run c.loop-read.invariant.disk c.in_err-end.ensures.disk

pub returns-in-Some-clause-disk : goal.returns-in-Some-clause-disk
returns-in-Some-clause-disk g c =
    keeps_more g.D.Disk.honest g.D.Disk.images g.D.Disk.faults c.args.disk.now c.loop-read.disk c.take_piece.new.disk c.args.run.now c.loop-read.run
    c.take_piece.new.run c.loop-read.invariant.disk c.in_ok-end.ensures.disk

pub loop-read-preserved : goal.loop-read-preserved
loop-read-preserved g c =
    let whole = disks_of g.D.Disk.honest g.D.Disk.images g.D.Disk.moment g.D.Disk.left_since c.args.disk.now c.take_piece.new.disk in
    let old = outside_before whole (g.K.Stream.written c.args.out.now) c.args.run.now in
    let mid = outside_after (disks_of g.D.Disk.honest g.D.Disk.images g.D.Disk.moment g.D.Disk.left_since c.args.disk.now c.loop-read.disk) (g.K.Stream.written c.loop-read.out) c.loop-read.run in
    let new = outside_after whole (g.K.Stream.written c.take_piece.new.out) c.take_piece.new.run in
    let piece = take c.in-Ok.count c.read_piece.new.buffer in
    let lt = c.loop-read-test.true in
    let most = c.min-most.ensures in
    let bound = c.in-Ok.ensures.bound in
    let count = c.in-Ok.ensures.count in
    let reads = c.loop-read.invariant.reads in
    let reads_still = c.read_piece.ensures.cause.later in
    let writes = c.loop-read.invariant.writes in
    let writes_still = c.take_piece.ensures.cause.later in
    let r = c.loop-read.invariant.at in
    let fits = piece_fits c.loop-read.read c.min-most.result c.in-Ok.count piece lt most bound count in
    let within = still_within c.loop-read.read piece c.loop-read.reader c.loop-read.run r fits in
    record {
      at =
          reads_on c.loop-read.read (c.loop-read.read + c.in-Ok.count) piece c.loop-read.reader c.take_piece.new.reader c.loop-read.run c.take_piece.new.run
          mid new r (omega (arith, count))
          (subst (λ (o : Option RunEnd). TakesPiece r.site r.kept r.p r.bytes piece mid new c.take_piece.new.reader c.take_piece.new.run (Ok o))
          c.in-None.is (c.in_ok-end.ensures.takes r.site r.kept r.bytes r.p r.is_at within));
      few = omega (arith, lt, most, bound);
      reads = omega (arith, reads, reads_still);
      writes = omega (arith, writes, writes_still);
      disk =
          keeps_more g.D.Disk.honest g.D.Disk.images g.D.Disk.faults c.args.disk.now c.loop-read.disk c.take_piece.new.disk c.args.run.now
          c.loop-read.run c.take_piece.new.run c.loop-read.invariant.disk c.in_ok-end.ensures.disk;
      so_far = λ site kept h.
          let left = g.S.Stream.left c.loop-read.input in
          some_weaker (g.S.Stream.left c.args.input.now)
          (λ bytes (s : SoFar site kept bytes left old mid c.loop-read.reader c.loop-read.run c.loop-read.read).
          let within = piece_within site kept bytes left old mid c.loop-read.reader c.loop-read.run c.loop-read.read s piece fits in
          piece_more site kept bytes left old mid c.loop-read.reader c.loop-read.run c.loop-read.read s piece (g.S.Stream.left c.read_piece.new.input) new
          c.take_piece.new.reader c.take_piece.new.run (c.loop-read.read + c.in-Ok.count) c.in-Ok.ensures.bytes (omega (arith, count))
          (subst (λ (o : Option RunEnd). TakesPiece site kept s.now s.consumed piece mid new c.take_piece.new.reader c.take_piece.new.run (Ok o)) c.in-None.is
          (c.in_ok-end.ensures.takes site kept s.consumed s.now s.is_at within)))
          (c.loop-read.invariant.so_far site kept h);
    }

pub returns-clause-reads : goal.returns-clause-reads
returns-clause-reads g c site kept h =
    let left = g.S.Stream.left c.loop-read.input in
    let disks = disks_of g.D.Disk.honest g.D.Disk.images g.D.Disk.moment g.D.Disk.left_since c.args.disk.now c.loop-read.disk in
    let old = outside_before disks (g.K.Stream.written c.args.out.now) c.args.run.now in
    let mid = outside_after disks (g.K.Stream.written c.loop-read.out) c.loop-read.run in
    let full = c.loop-read-test.false in
    let few = c.loop-read.invariant.few in
    some_weaker (g.S.Stream.left c.args.input.now)
    (λ bytes (s : SoFar site kept bytes left old mid c.loop-read.reader c.loop-read.run c.loop-read.read).
    limit_ends site kept bytes left old mid c.loop-read.reader c.loop-read.run c.loop-read.read s (omega (arith, full, few)))
    (c.loop-read.invariant.so_far site kept h)
