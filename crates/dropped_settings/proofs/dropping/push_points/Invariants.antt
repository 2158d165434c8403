use Rattle.std.proofs.Common.{◌≡◌, ◌++◌, take}
use Rattle.dropped_settings.specs.Dropped.{point_lines}
use Rattle.dropped_settings.proofs.dropping.push_points.Given as goal

abbrev pub invariant-loop-point : goal.invariant-loop-point
invariant-loop-point l = l.text.items ≡ l.initial.text.items ++ point_lines l.new l.kept (take l.point-index l.old.points)
