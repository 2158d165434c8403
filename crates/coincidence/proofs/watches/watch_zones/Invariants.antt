use Rattle.std.proofs.Common.{◌≡◌, map, take}
use Rattle.coincidence.specs.Parts.{zone_from}
use Rattle.coincidence.proofs.watches.watch_zones.Given as goal

abbrev pub invariant-loop-zone : goal.invariant-loop-zone
invariant-loop-zone l = l.watches.items ≡ map (zone_from l.kept) (take l.zone-index l.zones)
