use Rattle.std.proofs.Common.{◌≡◌, ◌++◌}
use Rattle.std.specs.List.{range_with_len}
use Rattle.dropped_settings.specs.Dropped.{counter_lines}
use Rattle.dropped_settings.proofs.dropping.push_counters.Given as goal

abbrev pub invariant-loop-place : goal.invariant-loop-place
invariant-loop-place l = l.text.items ≡ l.initial.text.items ++ counter_lines l.new l.kept (range_with_len 1 l.place)
