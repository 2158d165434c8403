use Rattle.std.proofs.Common.{sym, subst}
use Rattle.std.proofs.lemmas.Result.{err_from_is_err_and}
use Rattle.record_lines.specs.Belongs.{StepBelongs}
use Rattle.record_lines.specs.Stands.{StandsFor as ReadsFor, Feeds}
use Rattle.site_run.specs.Outside.{disks_of, outside_after, outside_before}
use Rattle.panel_program.specs.Taking.{TakesNext}
use Rattle.panel_program.proofs.Steps.{fed_next, may_step, NextBy}
use Rattle.panel_program.proofs.reading.take_next.Goals as goal

pub take_step-requires-clause-may : goal.take_step-requires-clause-may
take_step-requires-clause-may g c =
    let r = c.requires.may.at in
    let same = c.site.ensures r.site r.kept r.p r.is_at.stands in
    let feeds =
    subst (λ s. Feeds s r.bytes c.args.piece.now c.feed-fed.result c.feed-fed.new.self) same
    (c.feed-fed.ensures.feeds r.bytes (subst (λ s. ReadsFor s r.bytes c.args.reader.now) (sym same) r.is_at.reads)) in
    record {
      site = r.site;
      kept = r.kept;
      p = r.p;
      stands = r.is_at.stands;
      comes =
          may_step r.site r.kept r.bytes c.args.piece.now r.p c.feed-fed.result c.args.reader.now c.feed-fed.new.self c.args.run.now r.is_at
          c.requires.may.within feeds (subst (λ s. StepBelongs s c.feed-fed.result.step) same c.feed-fed.ensures.belongs);
    }

pub returns-in_err-end-clause-takes : goal.returns-in_err-end-clause-takes
returns-in_err-end-clause-takes g c site kept before p h within =
    let disks = disks_of g.D.Disk.honest g.D.Disk.images g.D.Disk.moment g.D.Disk.left_since c.args.disk.now c.take_step.new.disk in
    let old = outside_before disks (g.K.Stream.written c.args.out.now) c.args.run.now in
    let new = outside_after disks (g.K.Stream.written c.take_step.new.out) c.take_step.new.run in
    let q = err_from_is_err_and c.from_residual.result c.from_residual.ensures.1 in
    subst (TakesNext site kept p before c.args.piece.now old new c.feed-fed.new.self c.take_step.new.run) (sym q.1)
    (subst (NextBy site kept p before c.args.piece.now c.feed-fed.result.used old new c.feed-fed.new.self c.take_step.new.run) c.in_err-end.was
    (fed_next site _ kept before c.args.piece.now p c.feed-fed.result old new c.args.reader.now c.feed-fed.new.self c.args.run.now
    c.take_step.new.run c.take_step.result h within (c.site.ensures site kept p h.stands) c.feed-fed.ensures.feeds c.feed-fed.ensures.belongs
    (c.take_step.ensures.takes site kept p h.stands)))

pub returns-clause-takes : goal.returns-clause-takes
returns-clause-takes g c site kept before p h within =
    let disks = disks_of g.D.Disk.honest g.D.Disk.images g.D.Disk.moment g.D.Disk.left_since c.args.disk.now c.take_step.new.disk in
    let old = outside_before disks (g.K.Stream.written c.args.out.now) c.args.run.now in
    let new = outside_after disks (g.K.Stream.written c.take_step.new.out) c.take_step.new.run in
    subst (NextBy site kept p before c.args.piece.now c.feed-fed.result.used old new c.feed-fed.new.self c.take_step.new.run) c.in_ok-end.was
    (fed_next site _ kept before c.args.piece.now p c.feed-fed.result old new c.args.reader.now c.feed-fed.new.self c.args.run.now
    c.take_step.new.run c.take_step.result h within (c.site.ensures site kept p h.stands) c.feed-fed.ensures.feeds c.feed-fed.ensures.belongs
    (c.take_step.ensures.takes site kept p h.stands))
