use Rattle.std.proofs.Common.{◌≡◌, ◌∙◌, inl, inr, refl, subst, sym}
use Rattle.std.specs.Prelude.{IfSome}
use Rattle.retained_journal.specs.Opening.{Opens, opened}
use Rattle.retained_journal.specs.Outcomes.{IsKeptIn}
use Rattle.site_types.specs.Changes.{AreCounters}
use Rattle.site_types.specs.declared.retained.Retained.{Retained}
use Rattle.journal_move.specs.Moves.{file_of_site, is_wide_for}
use Rattle.journal_move.proofs.Targets.{opens_so}
use Rattle.journal_move.proofs.moving.move_between.Goals as goal

pub move_kept-requires-clause-counters : goal.move_kept-requires-clause-counters
move_kept-requires-clause-counters g c =
    subst (λ (s : Retained). AreCounters s.counters) (sym c.kept.ensures) c.in-Ok.ensures.stands.sound.keeps.small

pub returns-in-Ok-clause-moves : goal.returns-in-Ok-clause-moves
returns-in-Ok-clause-moves g c =
    let opening = c.in-Ok.ensures in
    let old = file_of_site c.args.old.now in
    inr (record {
      kept = c.kept.result.now;
      keeps =
          subst (λ (s : Retained). IfSome (g.D.Disk.seen c.args.disk.now) (IsKeptIn (is_wide_for old) old.digest s)) (sym opening.kept ∙ sym c.kept.ensures)
          opening.ok;
      holds = λ honest bytes is.
          subst (λ (s : Retained). opened (is_wide_for old) old.digest bytes ≡ Opens s) (sym c.kept.ensures)
          (opens_so (is_wide_for old) old.digest c.in-Ok.journal (g.D.Disk.images c.open.new.disk) opening.fresh.same_wide opening.fresh.same_digest
          (opening.opens honest) bytes is);
      ends = c.move_kept.ensures.ends;
    })

pub returns-in-Err-clause-moves : goal.returns-in-Err-clause-moves
returns-in-Err-clause-moves g c =
    inl (record {
      refusal = c.in-Err.refusal;
      cause = c.in-Err.ensures.err;
      alone = refl;
      tells = record {
        says = c.stop_at_journal.ensures.says;
        ticks = c.stop_at_journal.ensures.ticks.0;
        failures = c.stop_at_journal.ensures.ticks.1;
      };
    })
