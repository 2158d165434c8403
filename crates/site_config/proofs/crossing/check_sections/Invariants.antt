use Rattle.std.proofs.Common.{◌≡◌, drop}
use Rattle.site_document.specs.Refusals.{first_found}
use Rattle.site_config.specs.Crossing.{loop_crossing}
use Rattle.site_config.proofs.crossing.check_sections.Given as goal

abbrev pub invariant-loops : goal.invariant-loops
invariant-loops l = first_found (loop_crossing l.spots) (drop l.plan-index l.loops) ≡ first_found (loop_crossing l.spots) l.loops
