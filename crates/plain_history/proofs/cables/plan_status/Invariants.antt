use Rattle.std.proofs.Common.{take}
use Rattle.isolators.specs.Stands.{StandsFor as LineStandsFor}
use Rattle.panel_rules.specs.States.{piece_of}
use Rattle.plain_history.specs.Histories.{history}
use Rattle.plain_history.proofs.cables.plan_status.Given as goal

abbrev pub invariant-loop-moment : goal.invariant-loop-moment
invariant-loop-moment l = LineStandsFor l.plan (λ piece. piece_of l.panel l.line piece (history (take l.moment-index l.moments))) l.cable
