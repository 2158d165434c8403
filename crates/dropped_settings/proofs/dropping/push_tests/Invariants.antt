use Rattle.std.proofs.Common.{◌≡◌, ◌++◌, take}
use Rattle.dropped_settings.specs.Dropped.{test_lines}
use Rattle.dropped_settings.proofs.dropping.push_tests.Given as goal

abbrev pub invariant-loop-zone : goal.invariant-loop-zone
invariant-loop-zone l = l.text.items ≡ l.initial.text.items ++ test_lines l.new l.kept (take l.zone-index l.old.zones)
