use Rattle.node_laws.proofs.OwnZones.{zones_of_the_ring}
use Rattle.node_laws.proofs.zones.own_zones_of_the_ring.Goals as goal

pub returns : goal.returns
returns c = zones_of_the_ring
