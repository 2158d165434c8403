use Rattle.std.proofs.Common.{◌≡◌, true, take, map}
use Rattle.std.specs.List.{filter}
use Rattle.site_types.specs.declared.point.Point.{Point as PointPlan}
use Rattle.site_types.specs.declared.change.Change.TheVariants.{Point}
use Rattle.site_types.specs.Carry.{point_was_off}
use Rattle.site_types.specs.Changes.{changed_by}
use Rattle.site_types.proofs.carry_over.carry_points.Given as goal

abbrev pub invariant-loop-point : goal.invariant-loop-point
invariant-loop-point l =
    l.kept
    ≡ changed_by
    (map (λ (x : PointPlan). Point x.panel x.line x.address true)
    (filter (λ (x : PointPlan). point_was_off l.old l.state x.name.bytes) (take l.point-index l.new.points))) l.initial.kept
