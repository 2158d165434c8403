use Rattle.std.proofs.Common.{◌≡◌, ◌≤◌, Some, take}
use Rattle.std.specs.Prelude.{count_by}
use Rattle.site_types.specs.declared.point.Point.{Point}
use Rattle.site_types.specs.Done.{kept_point}
use Rattle.dropped_settings.proofs.counting.points_off.Given as goal

abbrev pub invariant-loop-point : goal.invariant-loop-point
invariant-loop-point l = record {
  counted : l.count ≡ count_by (λ (x : Point). kept_point l.kept (Some x)) (take l.point-index l.site.points);
  few : l.count ≤ l.point-index;
}
