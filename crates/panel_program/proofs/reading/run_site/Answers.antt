use Rattle.std.proofs.Common.{inl, inr, refl, subst, sym}
use Rattle.site_run.specs.Journals.{KeepsFor}
use Rattle.site_run.proofs.PowerCuts.{opened_of}
use Rattle.site_run.proofs.Written.{some_always, some_weaker}
use Rattle.panel_program.proofs.reading.run_site.Goals as goal

pub returns-in-Ok-clause-ran : goal.returns-in-Ok-clause-ran
returns-in-Ok-clause-ran g c =
    let journal = c.in-Ok.journal in
    let seen = g.D.Disk.seen c.args.disk.now in
    let digest = c.args.loaded.digest in
    let opened = c.in-Ok.ensures in
    some_weaker (g.S.Stream.left c.args.input.now)
    (λ bytes ran. inr (record {
      kept = journal.kept;
      keeps = subst (KeepsFor c.args.loaded.site digest seen) (sym opened.kept) opened.ok;
      ran = ran;
    }))
    (c.run_with.ensures.ran digest seen (opened_of digest seen journal opened.fresh.same_digest opened.early))

pub returns-in-Err-clause-ran : goal.returns-in-Err-clause-ran
returns-in-Err-clause-ran g c =
    let said = c.stop_at_journal.ensures in
    some_always (g.S.Stream.left c.args.input.now)
    (λ bytes. inl (record {
      refusal = c.in-Err.refusal;
      cause = c.in-Err.ensures.err;
      spared = c.open.ensures.unwritten;
      unread = record { left = refl; faults = refl };
      says = said.says;
      ticks = said.ticks.0;
      failures = said.ticks.1;
    }))
