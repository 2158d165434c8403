use Rattle.std.proofs.Common.{◌≡◌, ◌+◌, Some, ap, arith, length, slice_get, subst}
use Rattle.std.proofs.lemmas.Option.{slice_get_within}
use Rattle.caused_zones.specs.Marks.{AreEachAfter}
use Rattle.shown_causes.specs.Faults.{shows_fault_at, told_after}
use Rattle.shown_causes.proofs.FaultSteps.{faults_stay, faults_told, got_step, late_step}
use Rattle.shown_causes.proofs.told_faults.ToldFaults.take_tick.Goals as goal

pub returns-then-step-now : goal.returns-then-step-now
returns-then-step-now c before next stand =
    let at =
    subst (λ xs. slice_get xs c.args.self.now.next ≡ Some c.index-steps-self.result) c.as_slice-steps.ensures
    (got_step c.as_slice-steps.result.now c.args.self.now.next c.index-steps-self.result c.if-self-steps.true c.index-steps-self.is) in
    faults_told c.args.timeline.now before c.args.now.0 next c.args.self.now stand c.index-steps-self.result _ at c.if-step-now.true
    (ap (λ n. n + 1) c.take_faces.ensures.next) (omega arith)
    (subst (λ faces. AreEachAfter (λ place told. told_after c.args.now.0 (shows_fault_at faces place) told) c.args.self.now.panels
    c.take_faces.new.self.panels) c.as_slice.ensures c.take_faces.ensures.panels)

pub returns-else-step-now : goal.returns-else-step-now
returns-else-step-now c before next stand =
    let at =
    subst (λ xs. slice_get xs c.args.self.now.next ≡ Some c.index-steps-self.result) c.as_slice-steps.ensures
    (got_step c.as_slice-steps.result.now c.args.self.now.next c.index-steps-self.result c.if-self-steps.true c.index-steps-self.is) in
    faults_stay c.args.timeline.now before c.args.now.0 next c.args.self.now stand
    (late_step c.args.timeline.now.steps c.args.self.now.next c.args.now.0 c.index-steps-self.result at c.if-step-now.false)

pub returns-else-self-steps : goal.returns-else-self-steps
returns-else-self-steps c before next stand =
    faults_stay c.args.timeline.now before c.args.now.0 next c.args.self.now stand
    (λ step at. (let inside = slice_get_within c.args.timeline.now.steps c.args.self.now.next step at in
    let past = c.if-self-steps.false in
    let size = ap length c.as_slice-steps.ensures in
    absurd (omega (arith, inside, past, size))))
