use Rattle.std.proofs.Common.{◌++◌, [], List, ℕ, Bool, ap, ◌∙◌, if◌then◌else◌}
use Rattle.std.specs.Prelude.{codes}
use Rattle.site_types.specs.declared.point.Point.{Point}
use Rattle.dropped_settings.specs.Dropped.{is_dropped_point, named_line}
use Rattle.dropped_settings.proofs.DroppedLines.{text_next}
use Rattle.dropped_settings.proofs.dropping.push_points.Goals as goal

pub loop-point-preserved : goal.loop-point-preserved
loop-point-preserved c =
    let was = c.loop-point.text.items in
    text_next (λ (x : Point). named_line (codes "point") x.name.bytes) (is_dropped_point c.args.new.now c.args.kept.now) c.as_slice-point-items.result.now
    c.args.old.now.points c.loop-point.point-index c.point-item.result c.args.text.now.items was c.push_named.new.text.items c.as_slice-point-items.ensures
    c.loop-point-test.true c.point-item.is c.loop-point.invariant
    (c.in_ok-push_named.ensures
    ∙ ap (λ (b : Bool). was ++ (if b then named_line (codes "point") c.as_str.result.now else [])) c.is_dropped_point-is_dropped.ensures
    ∙ ap (λ (name : List ℕ). was ++ (if is_dropped_point c.args.new.now c.args.kept.now c.point-item.result then named_line (codes "point") name else []))
    c.as_str.ensures.value)
