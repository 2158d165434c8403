use Rattle.std.proofs.Common.{◌∙◌, sym}
use Rattle.isolators.specs.Stands.{StandsFor as LineStandsFor}
use Rattle.panel_rules.specs.States.{piece_of}
use Rattle.plain_history.proofs.Reported.{neither, never_told}
use Rattle.plain_history.proofs.TakenMoments.{history_all, history_next}
use Rattle.plain_history.proofs.cables.plan_status.Goals as goal

pub loop-moment-preserved : goal.loop-moment-preserved
loop-moment-preserved c =
    history_next (λ before. LineStandsFor c.args.plan.now (λ piece. piece_of c.args.panel c.args.line piece before) c.report.new.cable)
    c.args.moments.now c.loop-moment.moment-index c.moment-item.result c.loop-moment-test.true c.moment-item.is
    (c.report.ensures c.args.plan.now _ c.loop-moment.invariant)

pub returns : goal.returns
returns c =
    c.status.ensures c.args.plan.now _
    (history_all (λ before. LineStandsFor c.args.plan.now (λ piece. piece_of c.args.panel c.args.line piece before) c.loop-moment.cable)
    c.args.moments.now c.loop-moment.moment-index c.loop-moment-test.false c.loop-moment.invariant)

pub returns-then-not-was_reported : goal.returns-then-not-was_reported
returns-then-not-was_reported c =
    neither _ _ c.default.ensures.0 c.default.ensures.1 ∙ never_told c.args.panel c.args.line c.args.plan.now c.args.moments.now
    (sym c.was_reported.ensures ∙ c.if-not-was_reported.true)
