use Rattle.std.proofs.Common.{◌+◌, ◌<◌, ◌≤◌, arith, length}
use Rattle.plain_history.specs.Histories.{all_done, moment_of}
use Rattle.plain_words.proofs.EnteringPanels.{ask_at, ask_past, stepped_all, stepped_more, stepped_none}
use Rattle.plain_words.proofs.entering_panels.step_all.Goals as goal

pub loop-entering-init : goal.loop-entering-init
loop-entering-init c =
    record {
      rest = c.requires;
      stepped =
          λ first history all ticks. (tt, stepped_none c.args.settings.now.site.now c.args.settings.now.kept.now (all_done c.args.settings.now.done.now) history first c.args.panels.now all);
    }

pub loop-entering-preserved : goal.loop-entering-preserved
loop-entering-preserved c =
    let xs = c.loop-entering.panels in
    let k = c.loop-entering.entering-index in
    let small : k < length xs = omega (arith, c.loop-entering.auto.panels, c.loop-entering-test.true) in
    record {
      rest = ask_past c.args.settings.now.site.now xs k c.entering-item.result c.step.new.self small c.loop-entering.invariant.rest;
      stepped = λ first history all ticks.
          stepped_more c.args.settings.now.site.now c.args.settings.now.kept.now (all_done c.args.settings.now.done.now) (moment_of c.args.moment.now) history first k xs c.step.new.self
          c.entering-item.result small
          ((c.loop-entering.invariant.stepped first history all ticks).0) ((c.loop-entering.invariant.stepped first history all ticks).1)
          (λ stands. c.in_ok-step.ensures (first + k) history stands ticks);
    }

pub step-requires : goal.step-requires
step-requires c =
    let small : c.loop-entering.entering-index < length c.loop-entering.panels =
    omega (arith, c.loop-entering.auto.panels, c.loop-entering-test.true) in
    (ask_at c.args.settings.now.site.now c.loop-entering.panels c.loop-entering.entering-index c.entering-item.result small c.loop-entering.invariant.rest).0

pub returns : goal.returns
returns c =
    λ first history all ticks.
    let past : length c.loop-entering.panels ≤ c.loop-entering.entering-index =
    omega (arith, c.loop-entering.auto.panels, c.loop-entering-test.false) in
    stepped_all c.args.settings.now.site.now c.args.settings.now.kept.now (all_done c.args.settings.now.done.now) _ first c.loop-entering.entering-index c.loop-entering.panels past
    ((c.loop-entering.invariant.stepped first history all ticks).0)
