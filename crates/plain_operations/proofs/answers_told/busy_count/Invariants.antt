use Rattle.std.proofs.Common.{◌≡◌, ◌≤◌, map, take}
use Rattle.panel_rules.specs.Timeline.{busy_count}
use Rattle.plain_operations.specs.Desks.{answered_of}
use Rattle.plain_operations.proofs.answers_told.busy_count.Given as goal

abbrev pub invariant-loop-answered : goal.invariant-loop-answered
invariant-loop-answered l = (l.count ≡ busy_count l.panel (map answered_of (take l.answered-index l.now))) × (l.count ≤ l.answered-index)
