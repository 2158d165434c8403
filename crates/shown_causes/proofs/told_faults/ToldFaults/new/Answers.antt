use Rattle.std.proofs.Common.{replicate, subst}
use Rattle.caused_zones.specs.Marks.{AreEachAfter}
use Rattle.shown_causes.specs.Faults.{shows_fault_at, told_after}
use Rattle.shown_causes.proofs.FaultSteps.{faults_first, quiet_told}
use Rattle.shown_causes.proofs.told_faults.ToldFaults.new.Goals as goal

pub returns : goal.returns
returns c rising =
    faults_first c.args.timeline.now c.take_faces.new.self rising c.take_faces.ensures.next
    (subst (λ faces. AreEachAfter (λ place told. told_after 0 (shows_fault_at faces place) told) (replicate 8 quiet_told) c.take_faces.new.self.panels)
    c.as_slice.ensures c.take_faces.ensures.panels)
