use Rattle.std.proofs.Common.{◌≡◌, ◌+◌, ◌≤◌, refl, sym, subst, arith, length, None, option_map}
use Rattle.audit_rules.specs.declared.verdict.Verdict.TheVariants.{Passed}
use Rattle.audit_rules.specs.Breaches.{kept_by_text}
use Rattle.audit_rules.specs.Verdicts.{IsJudged, is_failed, is_passed}
use Rattle.panel_audit.specs.Breaking.{breach_in}
use Rattle.panel_audit.specs.Firsts.{FirstInTick}
use Rattle.panel_audit.specs.Judging.{JudgeStands}
use Rattle.panel_audit.proofs.FirstBreaches.{first_of_all, none_by_start, none_by_tick, none_of_all}
use Rattle.panel_audit.proofs.TickByTick.{tick_judged}
use Rattle.panel_audit.proofs.TicksUntil.{until_none}
use Rattle.panel_audit.proofs.judging.judge_ticks.Goals as goal
use Rattle.panel_audit.proofs.RuleBreaches.{FirstByTick}

pub loop-place-init : goal.loop-place-init
loop-place-init c =
    let site = c.args.case.now.site.now in
    let timeline = c.args.case.now.timeline.now in
    let operations = c.args.case.now.done.now in (
      c.requires.rows,
      λ ticks known begun scan. record {
        stands = subst (λ ts. JudgeStands site (kept_by_text site ticks timeline) timeline operations ts c.args.judge.now) (sym (until_none ticks)) begun;
        scanned = scan;
        none = none_by_start site ticks timeline;
      },
    )

pub loop-place-preserved : goal.loop-place-preserved
loop-place-preserved c = (
  c.take_tick-due.ensures.rows,
  λ ticks known begun scan.
      let place = c.loop-place.place in
      let within : place + 1 ≤ length ticks = omega (arith, c.loop-place-test.true, c.count-count.ensures ticks known.events) in
      let judged =
      tick_judged c.args.case.now.site.now c.args.case.now.timeline.now c.args.case.now.done.now c.args.told.now c.args.unfounded ticks known c.loop-place.place within
      (c.loop-place.place + 1) c.of_tick.result.now c.take_tick-due.result c.loop-place.judge c.take_tick-due.new.self c.is_now.result c.loop-place.scan c.first_broken.result
      refl (c.of_tick.ensures ticks known.events (omega arith) within) c.take_tick-due.ensures.takes c.is_now.ensures c.first_broken.ensures.finds
      (c.loop-place.invariant.1 ticks known begun scan) in
      record {
        stands = judged.0;
        scanned = c.first_broken.ensures.stands (c.loop-place.invariant.1 ticks known begun scan).scanned;
        none =
            none_by_tick c.args.case.now.site.now ticks c.args.case.now.timeline.now place (c.loop-place.invariant.1 ticks known begun scan).none
            (subst (λ r. FirstInTick c.args.case.now.site.now ticks c.args.case.now.timeline.now (place + 1) (option_map (breach_in (place + 1)) r)) c.in_default.is judged.1);
      },
)

pub returns-in-Some : goal.returns-in-Some
returns-in-Some c ticks known begun scan =
    let site = c.args.case.now.site.now in
    let timeline = c.args.case.now.timeline.now in
    let tick = c.loop-place.place + 1 in
    let within : tick ≤ length ticks = omega (arith, c.loop-place-test.true, c.count-count.ensures ticks known.events) in
    let judged =
    tick_judged c.args.case.now.site.now c.args.case.now.timeline.now c.args.case.now.done.now c.args.told.now c.args.unfounded ticks known c.loop-place.place within
    (c.loop-place.place + 1) c.of_tick.result.now c.take_tick-due.result c.loop-place.judge c.take_tick-due.new.self c.is_now.result c.loop-place.scan c.first_broken.result
    refl (c.of_tick.ensures ticks known.events (omega arith) within) c.take_tick-due.ensures.takes c.is_now.ensures c.first_broken.ensures.finds
    (c.loop-place.invariant.1 ticks known begun scan) in
    is_failed known.last (breach_in tick c.in-Some.broken)
    (first_of_all site ticks timeline c.loop-place.place (breach_in tick c.in-Some.broken) within (c.loop-place.invariant.1 ticks known begun scan).none
    (subst (λ r. FirstInTick site ticks timeline tick (option_map (breach_in tick) r)) c.in-Some.is judged.1))

pub returns : goal.returns
returns c ticks known begun scan =
    let site = c.args.case.now.site.now in
    let timeline = c.args.case.now.timeline.now in
    let place = c.loop-place.place in
    let before = c.loop-place.invariant.1 ticks known begun scan in
    let count = c.count-count.ensures ticks known.events in
    let low = c.loop-place-test.false in
    let high = c.loop-place.auto.place-end in
    let end : place ≡ length ticks = omega (arith, low, high, count) in
    subst (λ n. IsJudged site ticks timeline (Passed n)) (sym count)
    (is_passed known.last (none_of_all site ticks timeline (subst (λ n. FirstByTick site ticks timeline n None) end before.none)))
