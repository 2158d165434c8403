use Rattle.std.proofs.Common.{◌≤◌, take}
use Rattle.plain_history.specs.Histories.{history}
use Rattle.plain_history.specs.BadRuns.{Watches}
use Rattle.plain_history.proofs.supplies.is_shown.Given as goal

abbrev pub invariant-loop-moment : goal.invariant-loop-moment
invariant-loop-moment l = record {
  stands : Watches l.panel l.kind (history (take l.moment-index l.moments)) l.watched;
  few : l.watched.tick ≤ l.moment-index;
}
