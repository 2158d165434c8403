use Rattle.std.proofs.Common.{◌∙◌, ap, arith, sym}
use Rattle.plain_history.specs.BadRuns.{Watches, shows}
use Rattle.plain_history.proofs.TakenMoments.{history_all, history_next}
use Rattle.plain_history.proofs.BadRuns.{lasts_by}
use Rattle.plain_history.proofs.Reported.{never_bad}
use Rattle.plain_history.proofs.supplies.is_shown.Goals as goal

pub loop-moment-init : goal.loop-moment-init
loop-moment-init c = record { stands = c.new-watched.ensures.stands c.args.panel c.args.kind; few = omega (arith, c.new-watched.ensures.tick) }

pub loop-moment-preserved : goal.loop-moment-preserved
loop-moment-preserved c = record {
  stands =
      history_next (λ before. Watches c.args.panel c.args.kind before c.after-watched.result) c.args.moments.now c.loop-moment.moment-index
      c.moment-item.result c.loop-moment-test.true c.moment-item.is
      (c.after-watched.ensures.stands _ c.loop-moment.invariant.stands);
  few = omega (arith, c.after-watched.ensures.tick, c.loop-moment.invariant.few);
}

pub returns : goal.returns
returns c =
    let all = history_all (λ before. Watches c.args.panel c.args.kind before c.loop-moment.watched) c.args.moments.now c.loop-moment.moment-index
    c.loop-moment-test.false c.loop-moment.invariant.stands in
    c.is_shown.ensures ∙ ap (shows c.args.wait) all.run ∙ lasts_by c.args.wait _

pub returns-then-not-was_bad : goal.returns-then-not-was_bad
returns-then-not-was_bad c = never_bad c.args.panel c.args.kind c.args.wait c.args.moments.now (sym c.was_bad.ensures ∙ c.if-not-was_bad.true)
