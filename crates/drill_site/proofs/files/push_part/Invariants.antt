use Rattle.std.proofs.Common.{◌≡◌, ◌++◌}
use Rattle.drill_site.specs.Files.{for_each, list_head, text_of_panel}
use Rattle.drill_site.proofs.files.push_part.Given as goal

abbrev pub invariant-loop-before : goal.invariant-loop-before
invariant-loop-before l = l.text.items ≡ (l.fn.text.items ++ list_head l.part) ++ for_each (text_of_panel l.part) l.before
