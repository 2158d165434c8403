use Rattle.std.proofs.Common.{◌≡◌, map, take}
use Rattle.std.specs.List.{filter_map}
use Rattle.panel_rules.specs.Timeline.{told_answer}
use Rattle.plain_operations.specs.Desks.{answered_of}
use Rattle.plain_operations.proofs.answers_told.told.Given as goal

abbrev pub invariant-loop-answered : goal.invariant-loop-answered
invariant-loop-answered l = l.ops ≡ filter_map told_answer (map answered_of (take l.answered-index l.now))
