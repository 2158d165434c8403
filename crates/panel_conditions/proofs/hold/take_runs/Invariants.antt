use Rattle.std.proofs.Common.{◌≡◌, false, take}
use Rattle.answer_lanes.specs.Blocks.{block_finding_at}
use Rattle.answer_lanes.specs.Runs.{all_items}
use Rattle.panel_conditions.specs.Changes.{WatchesPointsMore, WatchesZonesMore, ZonesStaySettled}
use Rattle.panel_conditions.proofs.hold.take_runs.Given as goal

abbrev pub invariant-loop-run : goal.invariant-loop-run
invariant-loop-run l = record {
  points : WatchesPointsMore l.initial.points (all_items block_finding_at (take l.run-index l.fn.runs)) l.points;
  zones : WatchesZonesMore l.initial.zones (all_items block_finding_at (take l.run-index l.fn.runs)) l.zones;
  settled : ZonesStaySettled l.initial.zones l.zones;
  moved : l.zones.moved ≡ l.initial.zones.moved;
  off : (l.points.off ≡ l.initial.points.off) × (l.points.zone_off ≡ l.initial.points.zone_off);
  missing : l.points.changed ≡ false → (l.initial.points.changed ≡ false) × (l.points.missing ≡ l.initial.points.missing);
}
