use Rattle.std.proofs.Common.{◌≡◌, ◌++◌}
use Rattle.drill_site.specs.Files.{for_each, points_of_loop}
use Rattle.drill_site.proofs.files.push_points.Given as goal

abbrev pub invariant-loop-before : goal.invariant-loop-before
invariant-loop-before l = l.text.items ≡ l.fn.text.items ++ for_each (points_of_loop l.panel) l.before
