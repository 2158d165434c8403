use Rattle.std.proofs.Common.{◌++◌, [], List, ℕ, Bool, ap, ◌∙◌, if◌then◌else◌}
use Rattle.std.specs.Prelude.{codes}
use Rattle.site_types.specs.declared.zone.Zone.{Zone}
use Rattle.dropped_settings.specs.Dropped.{is_dropped_test, named_line}
use Rattle.dropped_settings.proofs.DroppedLines.{text_next}
use Rattle.dropped_settings.proofs.dropping.push_tests.Goals as goal

pub loop-zone-preserved : goal.loop-zone-preserved
loop-zone-preserved c =
    let was = c.loop-zone.text.items in
    text_next (λ (x : Zone). named_line (codes "test") x.name.bytes) (is_dropped_test c.args.new.now c.args.kept.now) c.as_slice-zone-items.result.now
    c.args.old.now.zones c.loop-zone.zone-index c.zone-item.result c.args.text.now.items was c.push_named.new.text.items c.as_slice-zone-items.ensures
    c.loop-zone-test.true c.zone-item.is c.loop-zone.invariant
    (c.in_ok-push_named.ensures
    ∙ ap (λ (b : Bool). was ++ (if b then named_line (codes "test") c.as_str.result.now else [])) c.is_dropped_test-is_dropped.ensures
    ∙ ap (λ (name : List ℕ). was ++ (if is_dropped_test c.args.new.now c.args.kept.now c.zone-item.result then named_line (codes "test") name else []))
    c.as_str.ensures.value)
