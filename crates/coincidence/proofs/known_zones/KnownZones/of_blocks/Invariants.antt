use Rattle.coincidence.specs.ZoneMasks.{TellZonesOf}
use Rattle.coincidence.proofs.known_zones.KnownZones.of_blocks.Given as goal

abbrev pub invariant-loop-firsts : goal.invariant-loop-firsts
invariant-loop-firsts l = TellZonesOf l.points l.zones l.known.blocks.items
