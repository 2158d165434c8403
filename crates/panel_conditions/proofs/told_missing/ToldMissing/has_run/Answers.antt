use Rattle.std.proofs.Common.{◌+◌, ◌∙◌, ap, subst, arith}
use Rattle.std.proofs.lemmas.Bool.{leb-true}
use Rattle.site_types.specs.Bits.{has_bit}
use Rattle.site_types.proofs.Masks.{has_bit-zero}
use Rattle.panel_conditions.specs.Told.{AreTold}
use Rattle.panel_conditions.proofs.PlaceLists.{same_bit, told_in}
use Rattle.panel_conditions.proofs.told_missing.ToldMissing.has_run.Goals as goal

pub returns-then-others-eq0 : goal.returns-then-others-eq0
returns-then-others-eq0 c is =
    let run = c.args.run.now in
    let told = c.eight_within.result in
    subst (λ l. AreTold l run) c.self.view_is
    (told_in c.self.inside.missing c.self.inside.count told run c.if-end-gt8.false c.self.invariant.0 c.if-first-end.false c.eight_within.ensures
    (λ place from below. same_bit told run.first.missing place (ap (λ m. has_bit m place) c.if-others-eq0.true ∙ has_bit-zero place)))

pub returns-else-others-eq0 : goal.returns-else-others-eq0
returns-else-others-eq0 c is =
    let run = c.args.run.now in
    let told = c.eight_within.result in
    let end = leb-true (run.taken + run.count) c.next_bit.result is in
    subst (λ l. AreTold l run) c.self.view_is
    (told_in c.self.inside.missing c.self.inside.count told run c.if-end-gt8.false c.self.invariant.0 c.if-first-end.false c.eight_within.ensures
    (λ place from below. same_bit told run.first.missing place (c.next_bit.ensures.none place from (omega (arith, below, end)))))
