use Rattle.std.proofs.Common.{refl}
use Rattle.shown_causes.proofs.shown_causes.ShownCauses.new.Goals as goal

pub returns : goal.returns
returns c kept operations in_order rising = record {
  now = refl;
  network = refl;
  caused = c.in_ok-caused.ensures kept operations in_order;
  faults = c.new-faults.ensures rising;
}
