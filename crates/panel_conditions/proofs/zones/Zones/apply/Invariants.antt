use Rattle.std.proofs.Common.{◌≡◌, ◌++◌, map, take, drop}
use Rattle.panel_conditions.specs.Parts.{zone_done}
use Rattle.panel_conditions.proofs.zones.Zones.apply.Given as goal

abbrev pub invariant-loop-k : goal.invariant-loop-k
invariant-loop-k l = record {
  watches : l.self.watches.items ≡ map (zone_done l.operation l.at) (take l.k l.initial.self.watches.items) ++ drop l.k l.initial.self.watches.items;
  moved : l.self.moved ≡ l.initial.self.moved;
}
