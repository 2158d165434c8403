use Rattle.std.proofs.Common.{◌∙◌, ap, arith, get_or}
use Rattle.shown_causes.specs.Faults.{told_after}
use Rattle.shown_causes.proofs.FaultSteps.{quiet_told}
use Rattle.caused_zones.proofs.EachAfter.{one_changed}
use Rattle.shown_causes.proofs.told_faults.ToldFaults.take_faces.Goals as goal

pub loop-place-preserved : goal.loop-place-preserved
loop-place-preserved c = (
  one_changed _ c.args.self.now.panels c.loop-place.self.panels c.loop-place.place c.loop-place.invariant.0 (omega arith) quiet_told c.after.result
      (c.after.ensures ∙ ap (λ fault. told_after c.args.now.0 fault (get_or c.loop-place.self.panels c.loop-place.place quiet_told)) c.shows_fault.ensures),
  c.loop-place.invariant.1,
)
