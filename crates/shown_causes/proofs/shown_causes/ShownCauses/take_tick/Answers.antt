use Rattle.std.proofs.Common.{◌∙◌, add-one, length, subst}
use Rattle.shown_causes.specs.Faults.{FaultsStand}
use Rattle.shown_causes.proofs.shown_causes.ShownCauses.take_tick.Goals as goal

pub returns : goal.returns
returns c kept ticks tick valid ordered next tell stands = record {
  now = next ∙ add-one (length ticks);
  network = stands.network;
  caused = c.take_tick.ensures kept ticks tick valid ordered next tell stands.caused;
  faults = subst (λ n. FaultsStand c.args.timeline.now n c.take_tick-2.new.self) (next ∙ add-one (length ticks))
      (c.take_tick-2.ensures (length ticks) next stands.faults);
}
