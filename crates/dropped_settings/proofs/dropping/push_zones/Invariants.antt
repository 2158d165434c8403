use Rattle.std.proofs.Common.{◌≡◌, ◌++◌, take}
use Rattle.dropped_settings.specs.Dropped.{zone_lines}
use Rattle.dropped_settings.proofs.dropping.push_zones.Given as goal

abbrev pub invariant-loop-zone : goal.invariant-loop-zone
invariant-loop-zone l = l.text.items ≡ l.initial.text.items ++ zone_lines l.new l.kept (take l.zone-index l.old.zones)
