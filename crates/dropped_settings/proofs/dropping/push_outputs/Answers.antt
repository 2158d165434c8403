use Rattle.std.proofs.Common.{◌++◌, [], List, ℕ, Bool, ap, ◌∙◌, if◌then◌else◌}
use Rattle.std.specs.Prelude.{codes}
use Rattle.site_types.specs.declared.output.Output.{Output}
use Rattle.dropped_settings.specs.Dropped.{is_dropped_output, named_line}
use Rattle.dropped_settings.proofs.DroppedLines.{text_next}
use Rattle.dropped_settings.proofs.dropping.push_outputs.Goals as goal

pub loop-output-preserved : goal.loop-output-preserved
loop-output-preserved c =
    let was = c.loop-output.text.items in
    text_next (λ (x : Output). named_line (codes "output") x.name.bytes) (is_dropped_output c.args.new.now c.args.kept.now) c.as_slice-output-items.result.now
    c.args.old.now.outputs c.loop-output.output-index c.output-item.result c.args.text.now.items was c.push_named.new.text.items c.as_slice-output-items.ensures
    c.loop-output-test.true c.output-item.is c.loop-output.invariant
    (c.in_ok-push_named.ensures
    ∙ ap (λ (b : Bool). was ++ (if b then named_line (codes "output") c.as_str.result.now else [])) c.is_dropped_output-is_dropped.ensures
    ∙ ap (λ (name : List ℕ). was ++ (if is_dropped_output c.args.new.now c.args.kept.now c.output-item.result then named_line (codes "output") name else []))
    c.as_str.ensures.value)
