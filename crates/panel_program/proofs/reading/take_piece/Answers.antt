use Rattle.std.proofs.Common.{◌≡◌, ◌∙◌, ◌++◌, ◌==◌, ℕ, List, [], ◌∷◌, true, length, take, refl, sym, subst, arith}
use Rattle.std.proofs.lemmas.Bool.{eqb-true}
use Rattle.std.proofs.lemmas.Result.{err_from_is_err_and}
use Rattle.site_run.specs.Outside.{disks_of, outside_after, outside_before}
use Rattle.panel_program.specs.Taking.{GoesOn, TakesPiece}
use Rattle.site_run.proofs.Disks.{keeps_more, keeps_same}
use Rattle.panel_program.proofs.Pieces.{may_rest, rest_within, taking_none, taking_more, taking_ends, taking_breaks, taking_whole}
use Rattle.panel_program.proofs.reading.take_piece.Goals as goal

no_rest : (rest : List ℕ) → (length rest == 0) ≡ true → rest ≡ []
no_rest [] e = refl
no_rest (byte ∷ rest) e = absurd (let none = eqb-true (length (byte ∷ rest)) 0 e in cc)

pub loop-rest-init : goal.loop-rest-init
loop-rest-init g c =
    record {
      at = c.requires.may;
      later = omega arith;
      disk = keeps_same g.D.Disk.honest g.D.Disk.images g.D.Disk.faults c.args.disk.now c.args.run.now c.args.run.now refl refl c.requires.stands;
      so_far = λ site kept before p h within. taking_none site kept p before c.args.piece.now
          (outside_before (disks_of g.D.Disk.honest g.D.Disk.images g.D.Disk.moment g.D.Disk.left_since c.args.disk.now c.args.disk.now) (g.K.Stream.written c.args.out.now) c.args.run.now)
          c.args.reader.now c.args.run.now h;
    }

pub returns-in_err-taken-clause-takes : goal.returns-in_err-taken-clause-takes
returns-in_err-taken-clause-takes g c site kept before p h within =
    let q = err_from_is_err_and c.from_residual.result c.from_residual.ensures.1 in
    let whole = disks_of g.D.Disk.honest g.D.Disk.images g.D.Disk.moment g.D.Disk.left_since c.args.disk.now c.take_next.new.disk in
    let old = outside_before whole (g.K.Stream.written c.args.out.now) c.args.run.now in
    let mid = outside_after (disks_of g.D.Disk.honest g.D.Disk.images g.D.Disk.moment g.D.Disk.left_since c.args.disk.now c.loop-rest.disk) (g.K.Stream.written c.loop-rest.out) c.loop-rest.run in
    let new = outside_after whole (g.K.Stream.written c.take_next.new.out) c.take_next.new.run in
    let rest = c.loop-rest.rest.now in
    let t = c.loop-rest.invariant.so_far site kept before p h within in
    let within_rest = rest_within site kept p before c.args.piece.now rest old mid new c.loop-rest.reader c.loop-rest.run t within in
    subst (TakesPiece site kept p before c.args.piece.now old new c.take_next.new.reader c.take_next.new.run) (sym q.1)
    (taking_breaks site kept p before c.args.piece.now rest old mid new c.loop-rest.reader c.loop-rest.run t c.take_next.new.run
    (c.in_err-taken.ensures.takes site kept (before ++ t.front) t.now t.is_at within_rest))

pub returns-in_err-taken-clause-disk : goal.returns-in_err-taken-clause-disk
returns-in_err-taken-clause-disk g c =
    keeps_more g.D.Disk.honest g.D.Disk.images g.D.Disk.faults c.args.disk.now c.loop-rest.disk c.take_next.new.disk c.args.run.now c.loop-rest.run
    c.take_next.new.run c.loop-rest.invariant.disk c.in_err-taken.ensures.disk

pub returns-in-Some-clause-takes : goal.returns-in-Some-clause-takes
returns-in-Some-clause-takes g c site kept before p h within =
    let whole = disks_of g.D.Disk.honest g.D.Disk.images g.D.Disk.moment g.D.Disk.left_since c.args.disk.now c.take_next.new.disk in
    let old = outside_before whole (g.K.Stream.written c.args.out.now) c.args.run.now in
    let mid = outside_after (disks_of g.D.Disk.honest g.D.Disk.images g.D.Disk.moment g.D.Disk.left_since c.args.disk.now c.loop-rest.disk) (g.K.Stream.written c.loop-rest.out) c.loop-rest.run in
    let new = outside_after whole (g.K.Stream.written c.take_next.new.out) c.take_next.new.run in
    let t = c.loop-rest.invariant.so_far site kept before p h within in
    let rest = c.loop-rest.rest.now in
    let used = c.in_ok-taken.taken.used in
    let within_rest = rest_within site kept p before c.args.piece.now rest old mid new c.loop-rest.reader c.loop-rest.run t within in
    taking_ends site kept p before c.args.piece.now rest old mid new c.loop-rest.reader c.loop-rest.run t used c.in-Some.end c.take_next.new.run
    (subst (GoesOn site kept t.now ((before ++ t.front) ++ take used rest) mid new c.take_next.new.reader c.take_next.new.run) c.in-Some.is
    (c.in_ok-taken.ensures.takes site kept (before ++ t.front) t.now t.is_at within_rest))

pub returns-in-Some-clause-disk : goal.returns-in-Some-clause-disk
returns-in-Some-clause-disk g c =
    keeps_more g.D.Disk.honest g.D.Disk.images g.D.Disk.faults c.args.disk.now c.loop-rest.disk c.take_next.new.disk c.args.run.now c.loop-rest.run
    c.take_next.new.run c.loop-rest.invariant.disk c.in_ok-taken.ensures.disk

pub loop-rest-preserved : goal.loop-rest-preserved
loop-rest-preserved g c =
    let whole = disks_of g.D.Disk.honest g.D.Disk.images g.D.Disk.moment g.D.Disk.left_since c.args.disk.now c.take_next.new.disk in
    let old = outside_before whole (g.K.Stream.written c.args.out.now) c.args.run.now in
    let mid = outside_after (disks_of g.D.Disk.honest g.D.Disk.images g.D.Disk.moment g.D.Disk.left_since c.args.disk.now c.loop-rest.disk) (g.K.Stream.written c.loop-rest.out) c.loop-rest.run in
    let new = outside_after whole (g.K.Stream.written c.take_next.new.out) c.take_next.new.run in
    let rest = c.loop-rest.rest.now in
    let used = c.in_ok-taken.taken.used in
    let r = c.loop-rest.invariant.at in
    let later = c.loop-rest.invariant.later in
    let later_still = c.take_next.ensures.cause.later in
    record {
      at =
          may_rest rest c.split_at.result.1.now used mid new c.loop-rest.reader c.take_next.new.reader c.loop-rest.run c.take_next.new.run r
          c.split_at.ensures.back
          (subst (GoesOn r.at.site r.at.kept r.at.p (r.at.bytes ++ take used rest) mid new c.take_next.new.reader c.take_next.new.run) c.in-None.is
          (c.in_ok-taken.ensures.takes r.at.site r.at.kept r.at.bytes r.at.p r.at.is_at r.within));
      later = omega (arith, later, later_still);
      disk =
          keeps_more g.D.Disk.honest g.D.Disk.images g.D.Disk.faults c.args.disk.now c.loop-rest.disk c.take_next.new.disk c.args.run.now c.loop-rest.run
          c.take_next.new.run c.loop-rest.invariant.disk c.in_ok-taken.ensures.disk;
      so_far = λ site kept before p h within.
          let t = c.loop-rest.invariant.so_far site kept before p h within in
          let within_rest = rest_within site kept p before c.args.piece.now rest old mid new c.loop-rest.reader c.loop-rest.run t within in
          taking_more site kept p before c.args.piece.now rest old mid new c.loop-rest.reader c.loop-rest.run t used
          c.split_at.result.1.now c.take_next.new.reader c.take_next.new.run c.split_at.ensures.back
          (subst (GoesOn site kept t.now ((before ++ t.front) ++ take used rest) mid new c.take_next.new.reader c.take_next.new.run) c.in-None.is
          (c.in_ok-taken.ensures.takes site kept (before ++ t.front) t.now t.is_at within_rest));
    }

pub returns-clause-takes : goal.returns-clause-takes
returns-clause-takes g c site kept before p h within =
    let disks = disks_of g.D.Disk.honest g.D.Disk.images g.D.Disk.moment g.D.Disk.left_since c.args.disk.now c.loop-rest.disk in
    taking_whole site kept p before c.args.piece.now c.loop-rest.rest.now (outside_before disks (g.K.Stream.written c.args.out.now) c.args.run.now)
    (outside_after disks (g.K.Stream.written c.loop-rest.out) c.loop-rest.run) c.loop-rest.reader c.loop-rest.run (c.loop-rest.invariant.so_far site kept before p h within)
    (no_rest c.loop-rest.rest.now (sym c.is_empty.ensures ∙ c.loop-rest-test.false))
