use Rattle.std.proofs.Common.{◌≡◌, drop}
use Rattle.site_document.specs.Refusals.{first_found}
use Rattle.site_config.specs.Crossing.{crossing_at}
use Rattle.site_config.proofs.crossing.check_loop.Given as goal

abbrev pub invariant-isolators : goal.invariant-isolators
invariant-isolators l =
    first_found (crossing_at l.plan l.points.items) (drop l.place-index l.isolators) ≡ first_found (crossing_at l.plan l.points.items) l.isolators
