use Rattle.std.proofs.Common.{refl}
use Rattle.caused_zones.proofs.Taken.{none_taken}
use Rattle.caused_zones.proofs.caused_zones.CausedZones.new.Goals as goal

pub returns : goal.returns
returns c kept operations in_order = record {
  round = refl;
  now = refl;
  are_taken = none_taken operations in_order;
  parts = c.in_ok-parts.ensures kept operations;
}
