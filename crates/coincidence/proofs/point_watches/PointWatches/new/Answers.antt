use Rattle.std.proofs.Common.{◌∙◌, true, false, subst}
use Rattle.answer_lanes.specs.Places.{HasFirst}
use Rattle.coincidence.proofs.PlaceSets.{begun_those}
use Rattle.coincidence.proofs.point_watches.PointWatches.new.Goals as goal

pub invariant_of-result : goal.invariant_of-result
invariant_of-result c =
    let those = begun_those c.args.kept.now c.args.points.now c.in_ok-watches.watches.items c.in_ok-resting.resting c.in_ok-missing.missing c.in_ok-watches.ensures
    (subst (λ n. HasFirst n true c.in_ok-resting.resting) (c.len.ensures ∙ c.in_ok-watches.watches.ok.0) c.in_ok-resting.ensures)
    (subst (λ n. HasFirst n false c.in_ok-missing.missing) (c.len-2.ensures ∙ c.in_ok-watches.watches.ok.0) c.in_ok-missing.ensures) in
    those
