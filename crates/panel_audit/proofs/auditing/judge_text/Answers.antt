use Rattle.std.proofs.Common.{◌≡◌, ◌∙◌, [], sym, ap, subst, map, option_map}
use Rattle.tick_units.specs.declared.tick.Tick.{Tick}
use Rattle.record_lines.specs.Judged.{line_view}
use Rattle.cause_effect.proofs.Orders.{order_is_free}
use Rattle.panel_rules.specs.Moments.{moments}
use Rattle.audit_rules.specs.RecordTicks.{ticks_of_record}
use Rattle.audit_rules.specs.ToldDone.{retained_by}
use Rattle.audit_rules.specs.Verdicts.{is_unequal}
use Rattle.blocked_points.specs.Operations.{as_done}
use Rattle.told_operations.specs.Asked.{asked_in_lines}
use Rattle.told_operations.specs.Doing.{done_in_steps}
use Rattle.told_operations.specs.Founding.{IsFirstUnfounded, first_groundless}
use Rattle.panel_audit.specs.Judging.{JudgeStands}
use Rattle.panel_audit.specs.Ticks.{IsCase}
use Rattle.panel_audit.proofs.DoneOrder.{done_in_order, newest_by_text}
use Rattle.panel_audit.proofs.ReadSteps.{do_rise, steps_rise}
use Rattle.panel_audit.proofs.auditing.judge_text.Goals as goal

pub returns-then-timeline-count : goal.returns-then-timeline-count
returns-then-timeline-count c form ordered =
    let site = c.args.site.now in
    let ticks = ticks_of_record site (map line_view c.args.lines.now) in
    is_unequal (λ same. c.if-timeline-count.true (same ∙ sym (c.count.ensures ticks (c.in_ok-told.ensures site))))

pub returns : goal.returns
returns c form ordered =
    let site = c.args.site.now in
    let lines = c.args.lines.now in
    let timeline = c.args.timeline.now in
    let ticks = ticks_of_record site (map line_view lines) in
    let rise = steps_rise site timeline form in
    let asked = c.as_slice.result.now in
    let asked_are = c.as_slice.ensures ∙ c.in_ok-asked.ensures in
    let done = c.as_slice-4.result.now in
    let done_are : map as_done done ≡ done_in_steps asked timeline.steps =
    ap (map as_done) c.as_slice-4.ensures ∙ c.in_ok-done.ensures ∙ ap (done_in_steps asked) c.as_slice-steps.ensures in
    let first : option_map (λ (t : Tick). t.0) c.in_ok-unfounded.unfounded ≡ first_groundless (asked_in_lines site (map line_view lines)) [] timeline.steps =
    c.in_ok-unfounded.ensures ∙ ap (λ steps. first_groundless c.as_slice-2.result.now [] steps) c.as_slice-steps.ensures
    ∙ ap (λ all. first_groundless all [] timeline.steps) (c.as_slice-2.ensures ∙ c.in_ok-asked.ensures) in
    let answers : IsFirstUnfounded site (moments ticks) timeline.steps (option_map (λ (t : Tick). t.0) c.in_ok-unfounded.unfounded) =
    subst (IsFirstUnfounded site (moments ticks) timeline.steps) (sym first)
    (c.first_is_found.ensures site (moments ticks) timeline.steps (do_rise site timeline.steps 0 timeline.last.0 timeline.opened form.steps)) in
    let known : IsCase site timeline done c.in_ok-told.told c.in_ok-unfounded.unfounded ticks = record {
      acyclic = order_is_free site c.args.plan.now.order c.requires.plan.order;
      last = c.if-timeline-count.false ∙ c.count.ensures ticks (c.in_ok-told.ensures site);
      ordered = ordered;
      rise = rise;
      events = c.in_ok-told.ensures site;
      done = newest_by_text c.done_is_listed.ensures site lines timeline asked done asked_are done_are;
      answers = answers;
    } in
    let kept = c.opened-kept.ensures ∙ ap retained_by c.as_slice-3.ensures in
    let begun : JudgeStands site (retained_by timeline.opened) timeline done [] c.in_ok-judge.judge =
    subst (λ k. JudgeStands site k timeline done [] c.in_ok-judge.judge) kept
    (c.in_ok-judge.ensures.stands (done_in_order asked timeline.steps done rise done_are) rise) in
    c.judge_ticks.ensures ticks known begun c.in_ok-scan.ensures
