use Rattle.std.proofs.Common.{◌-◌, ◌≤◌, map}
use Rattle.std.specs.List.{range_with_len}
use Rattle.answer_lanes.specs.Blocks.{block_finding_at}
use Rattle.panel_conditions.specs.Changes.{BothTake}
use Rattle.panel_conditions.proofs.block_runs.take_singly.Given as goal

abbrev pub invariant-loop-place : goal.invariant-loop-place
invariant-loop-place l = record {
  from : l.run.taken ≤ l.place;
  both : BothTake (map (block_finding_at l.run.first) (range_with_len l.run.taken (l.place - l.run.taken))) l.initial.points l.points l.initial.zones
      l.zones;
}
