use Rattle.std.proofs.Common.{◌≡◌, ◌==◌, ◌∙◌, inl, inr, ap, refl, subst, sym}
use Rattle.program_status.specs.declared.outcome.Outcome.{Outcome}
use Rattle.program_status.specs.declared.status.Status.TheVariants.{Done}
use Rattle.program_status.specs.Sayings.{Says}
use Rattle.retained_journal.specs.Opening.{Opens, opened}
use Rattle.retained_journal.specs.Slots.{FitPoints, HasNarrowPoints}
use Rattle.site_types.specs.Changes.{AreCounters}
use Rattle.site_types.specs.declared.retained.Retained.{Retained}
use Rattle.journal_move.proofs.CarriedStates.{carried_keeps}
use Rattle.journal_move.proofs.Targets.{was_empty}
use Rattle.journal_move.proofs.moving.move_kept.Goals as goal

pub create-requires-clause-counters : goal.create-requires-clause-counters
create-requires-clause-counters g c =
    subst (λ (s : Retained). AreCounters s.counters) (sym c.carry-carried.ensures)
    (carried_keeps c.args.old.now.site c.args.new.now.site c.args.kept.now c.requires.new.valid c.requires.counters).small

pub create-requires-clause-points : goal.create-requires-clause-points
create-requires-clause-points g c =
    subst (λ (s : Retained). FitPoints s.points) (sym c.carry-carried.ensures)
    (carried_keeps c.args.old.now.site c.args.new.now.site c.args.kept.now c.requires.new.valid c.requires.counters).fits

pub create-requires-clause-narrow : goal.create-requires-clause-narrow
create-requires-clause-narrow g c =
    subst (λ (s : Retained). HasNarrowPoints (c.args.new.now.site.format == 2) s.points) (sym c.carry-carried.ensures)
    (carried_keeps c.args.old.now.site c.args.new.now.site c.args.kept.now c.requires.new.valid c.requires.counters).narrow

pub returns-in_default-clause-ends : goal.returns-in_default-clause-ends
returns-in_default-clause-ends g c =
    let told = c.after.ensures in
    inl (record {
      alone = refl;
      silent = record {
        status = ap (λ (o : Outcome). o.status) told;
        ticks = ap (λ (o : Outcome). o.ticks) told;
        failures = ap (λ (o : Outcome). o.store_failures) told;
        same = refl;
      };
    })

pub returns-in-Ok-create-clause-ends : goal.returns-in-Ok-create-clause-ends
returns-in-Ok-create-clause-ends g c =
    let old = g.K.Stream.written c.args.out.now in
    let new = g.K.Stream.written c.say.new.out in
    let created = c.in-Ok-create.ensures in
    inr (inr (record {
      empty = was_empty c.args.new.now.digest c.carry-carried.result (g.D.Disk.seen c.args.target.now) (g.D.Disk.seen c.create.new.disk) created.made;
      made = λ honest bytes is.
          subst (λ (s : Retained). opened (c.args.new.now.site.format == 2) c.args.new.now.digest bytes ≡ Opens s) c.carry-carried.ensures
          (created.ok (c.create.ensures.honest.0 honest) bytes is);
      tells = record {
        says = subst (λ text. Says Done text old new c.say.result.status) (c.as_slice.ensures ∙ c.in-Ok.ensures) c.say.ensures.says;
        ticks = c.say.ensures.ticks.0;
        failures = c.say.ensures.ticks.1;
      };
    }))

pub returns-clause-ends : goal.returns-clause-ends
returns-clause-ends g c =
    inr (inl (record {
      refusal = c.in-Err.refusal;
      cause = c.in-Err.ensures.err;
      tells = record {
        says = c.stop_at_target.ensures.says;
        ticks = c.stop_at_target.ensures.ticks.0;
        failures = c.stop_at_target.ensures.ticks.1;
      };
    }))
