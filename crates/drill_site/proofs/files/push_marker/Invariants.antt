use Rattle.std.proofs.Common.{◌≡◌, ◌++◌}
use Rattle.drill_site.specs.Files.{for_each, marker_head, term_text}
use Rattle.drill_site.proofs.files.push_marker.Given as goal

abbrev pub invariant-loop-before : goal.invariant-loop-before
invariant-loop-before l = l.text.items ≡ (l.fn.text.items ++ marker_head l.panel) ++ for_each (term_text l.panel) l.before
