use Rattle.site_types.specs.Changes.{HasOwnPlaces}
use Rattle.panel_conditions.specs.Stands.{AreZoneSets}
use Rattle.panel_conditions.proofs.points.sets_of_zones.Given as goal

abbrev pub invariant-loop-point : goal.invariant-loop-point
invariant-loop-point l = HasOwnPlaces l.site → AreZoneSets l.site l.panel l.point-index l.sets.items
