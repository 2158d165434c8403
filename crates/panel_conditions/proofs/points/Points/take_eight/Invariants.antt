use Rattle.std.proofs.Common.{map}
use Rattle.std.specs.List.{range_with_len}
use Rattle.answer_lanes.specs.Blocks.{eight_finding_at}
use Rattle.panel_conditions.specs.Changes.{TakesPoints}
use Rattle.panel_conditions.proofs.points.Points.take_eight.Given as goal

abbrev pub invariant-loop-place : goal.invariant-loop-place
invariant-loop-place l = TakesPoints (map (eight_finding_at l.eight) (range_with_len 0 l.place)) l.initial.self l.self
