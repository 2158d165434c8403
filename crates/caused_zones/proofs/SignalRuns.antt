-- Runs of ticks in which points signal tell which do now.
use Rattle.std.proofs.Common.{◌≡◌, true, false, List, length, inl, inr, sym, ◌∙◌, ap, arith}
use Rattle.std.specs.Prelude.{nat_lt}
use Rattle.std.proofs.lemmas.Bool.{cases_lt}
use Rattle.site_types.specs.declared.retained.Retained.{Retained}
use Rattle.site_types.specs.declared.site.Site.{Site}
use Rattle.panel_rules.specs.Moments.{TickBlock, moments}
use Rattle.blocked_points.specs.declared.done_operation.DoneOperation.{DoneOperation}
use Rattle.blocked_points.specs.Operations.{done_newest_first}
use Rattle.point_runs.specs.declared.point_run.PointRun.{PointRun}
use Rattle.signal_points.specs.Stands.{AreSignalRuns}
use Rattle.signal_points.proofs.Tests.{signals_by_test, test_of_signals}
use Rattle.caused_zones.specs.Marks.{has_run, no_run}
use Rattle.caused_zones.specs.Stands.{TellSignals}
use Rattle.caused_zones.proofs.PartSteps.{past_end}

pub told_by_runs : (site : Site) (kept : Retained) (operations : List DoneOperation) (ticks : List TickBlock) (runs : List PointRun)
    → AreSignalRuns site kept operations ticks runs → TellSignals site kept operations ticks runs
told_by_runs site kept operations ticks runs are = record {
  some = λ point h. elim (cases_lt point (length site.points)) [
    | inl l ↦ signals_by_test site kept (done_newest_first operations) (moments ticks) point (length ticks) ((are.each point no_run l).lasts ∙ h)
    | inr l ↦ absurd (let size = are.size in
        never (sym h ∙ ap (λ (run : PointRun). nat_lt 0 run.since) (past_end runs point no_run (omega (arith, l, size)))))
  ];
  all = λ point l s.
      sym (are.each point no_run l).lasts ∙ test_of_signals site kept (done_newest_first operations) (moments ticks) point (length ticks) s;
}
  where
    never : true ≡ false → ⊥
    never e = absurd cc
