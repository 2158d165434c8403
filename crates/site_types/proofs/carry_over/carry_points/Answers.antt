use Rattle.std.proofs.Common.{true, sym, ◌∙◌}
use Rattle.site_types.specs.declared.point.Point.{Point as PointPlan}
use Rattle.site_types.specs.declared.change.Change.TheVariants.{Point}
use Rattle.site_types.specs.Carry.{point_was_off}
use Rattle.site_types.proofs.Carried.{carried_on, carried_off}
use Rattle.site_types.proofs.carry_over.carry_points.Goals as goal
use Rattle.site_types.proofs.carry_over.carry_points.Goals.{then-was_restricted, else-was_restricted}

pub loop-point-preserved : goal.loop-point-preserved
loop-point-preserved c =
    elim c.if-was_restricted.branch [
      | then-was_restricted w ↦
          w.kept-is
          ∙ carried_on (λ (x : PointPlan). Point x.panel x.line x.address true)
          (λ (x : PointPlan). point_was_off c.args.old.now c.args.state.now x.name.bytes) c.as_slice-point-items.result.now c.args.new.now.points
          c.loop-point.point-index c.point-item.result c.args.kept.now c.loop-point.kept w.apply.new.self
          c.as_slice-point-items.ensures c.loop-point-test.true c.point-item.is (sym c.was_restricted.ensures ∙ w.if-was_restricted.true)
          c.loop-point.invariant w.apply.ensures
      | else-was_restricted w ↦
          w.kept-is
          ∙ carried_off (λ (x : PointPlan). Point x.panel x.line x.address true)
          (λ (x : PointPlan). point_was_off c.args.old.now c.args.state.now x.name.bytes) c.as_slice-point-items.result.now c.args.new.now.points
          c.loop-point.point-index c.point-item.result c.args.kept.now c.loop-point.kept
          c.as_slice-point-items.ensures c.loop-point-test.true c.point-item.is (sym c.was_restricted.ensures ∙ w.if-was_restricted.false)
          c.loop-point.invariant
    ]
