use Rattle.std.proofs.Common.{◌≡◌, ◌++◌}
use Rattle.drill_site.specs.Files.{for_each, zone_line}
use Rattle.drill_site.proofs.files.push_zones.Given as goal

abbrev pub invariant-loop-before : goal.invariant-loop-before
invariant-loop-before l = l.text.items ≡ l.fn.text.items ++ for_each (zone_line l.panel) l.before
