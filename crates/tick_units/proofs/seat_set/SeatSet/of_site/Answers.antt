use Rattle.tick_units.proofs.SeatSets.{has_all}
use Rattle.tick_units.proofs.seat_set.SeatSet.of_site.Goals as goal

pub returns : goal.returns
returns c = has_all
