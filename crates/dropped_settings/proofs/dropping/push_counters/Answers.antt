use Rattle.std.proofs.Common.{◌+◌, ◌++◌, [], Bool, ap, ◌∙◌, if◌then◌else◌}
use Rattle.dropped_settings.specs.Dropped.{is_dropped_counter, counter_line}
use Rattle.dropped_settings.proofs.DroppedLines.{text_next_panel}
use Rattle.dropped_settings.proofs.dropping.push_counters.Goals as goal

pub loop-place-preserved : goal.loop-place-preserved
loop-place-preserved c =
    let was = c.loop-place.text.items in
    text_next_panel (counter_line c.args.kept.now) (is_dropped_counter c.args.new.now c.args.kept.now) c.loop-place.place c.args.text.now.items was c.push_counter.new.text.items
    c.loop-place.invariant
    (c.in_ok-push_counter.ensures ∙ ap (λ (b : Bool). was ++ (if b then counter_line c.args.kept.now (c.loop-place.place + 1) else [])) c.is_dropped_counter-is_dropped.ensures)
