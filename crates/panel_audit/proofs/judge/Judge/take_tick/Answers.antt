use Rattle.std.proofs.Common.{◌∙◌, ◌∷◌, sym, ap, subst, arith, length}
use Rattle.panel_rules.specs.Moments.{moments}
use Rattle.run_text.proofs.TickTimes.{tick_moments}
use Rattle.blocked_points.specs.Operations.{done_newest_first}
use Rattle.due_zones.specs.Deciding.{AreAllDecisive}
use Rattle.excused_outputs.specs.Excused.{StandsFor as ExcusedStand}
use Rattle.shown_causes.specs.Faults.{DoStepsRise}
use Rattle.panel_audit.specs.ShownSteps.{ReadsUpTo}
use Rattle.panel_audit.proofs.TicksJudged.{comes_next, cut_back, now_is, runs_told}
use Rattle.panel_audit.proofs.judge.Judge.take_tick.Goals as goal

pub returns-clause-takes : goal.returns-clause-takes
returns-clause-takes c kept ticks tick acyclic ordered rise next stands =
    let site = c.args.case.now.site.now in
    let valid = c.requires.site in
    let operations = c.args.case.now.done.now in
    let ticks_now = tick ∷ ticks in
    let now = now_is tick ticks c.args.now.0 next.0 in
    let one = next.0 in
    let runs_before = runs_told site kept operations ticks c.runs.result.now (c.runs.ensures site kept operations ticks stands.signals) in
    let signals = c.take_tick-2.ensures kept ticks tick next stands.signals in
    let least = c.take_tick.ensures kept (moments ticks) (moments ticks_now) stands.least runs_before (comes_next tick ticks)
    (now ∙ sym (tick_moments ticks_now)) in
    let joined = c.take_tick-3.ensures site ticks tick stands.joined next.0 next.1 in
    let excused = c.tick.ensures site kept (length ticks) (omega (arith, one)) stands.excused in
    let causes = c.take_tick-4.ensures kept ticks tick valid ordered next.0 (c.runs-2.ensures site kept operations ticks_now signals) stands.causes in
    let long = c.args.self.now.rows.ok.0 ∙ sym (c.fill_rows.ensures.size ∙ ap length c.deref_mut.ensures.value) in
    let rows : AreAllDecisive site kept (done_newest_first operations) (moments ticks_now) c.deref.result.now =
    subst (AreAllDecisive site kept (done_newest_first operations) (moments ticks_now)) (sym (c.deref.ensures.value ∙ cut_back c.fill_rows.new.rows _ c.args.self.now.rows.len long))
    (c.fill_rows.ensures.tells (ap length c.deref_mut.ensures.value ∙ c.requires.rows) kept operations (moments ticks_now) least) in
    let due = c.due_at_each-due.ensures kept (done_newest_first operations) ticks_now joined now rows in
    let dues = c.take_tick-5.ensures kept (done_newest_first operations) tick ticks acyclic stands.dues next.0 due in
    let shown : ReadsUpTo c.args.case.now.timeline.now.steps (length ticks_now) c.take_tick-6.new.self.steps =
    subst (λ steps. ReadsUpTo steps (length ticks_now) c.take_tick-6.new.self.steps) c.as_slice.ensures
    (subst (λ n. ReadsUpTo c.as_slice.result.now n c.take_tick-6.new.self.steps) now
    (c.take_tick-6.ensures (length ticks) (subst DoStepsRise (sym c.as_slice.ensures) rise)
    (subst (λ steps. ReadsUpTo steps (length ticks) c.args.self.now.shown.steps) (sym c.as_slice.ensures) stands.shown) next.0)) in (
      record {
        signals = signals;
        least = least;
        joined = joined;
        dues = dues;
        excused = subst (λ n. ExcusedStand site kept operations n c.tick.new.self) now excused;
        causes = causes;
        shown = shown;
      },
      due,
    )
