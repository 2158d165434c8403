use Rattle.std.proofs.Common.{◌≡◌, drop, max}
use Rattle.site_types.specs.Sections.{section_of}
use Rattle.site_config.proofs.crossing.section_of.Given as goal

abbrev pub invariant-isolators : goal.invariant-isolators
invariant-isolators l = max l.section (section_of (drop l.place-index l.isolators) l.address) ≡ section_of l.isolators l.address
