use Rattle.std.proofs.Common.{◌+◌, ◌++◌, [], Bool, ap, ◌∙◌, if◌then◌else◌}
use Rattle.dropped_settings.specs.Dropped.{are_dropped_delays, delays_line}
use Rattle.dropped_settings.proofs.DroppedLines.{text_next_panel}
use Rattle.dropped_settings.proofs.dropping.push_delays_off.Goals as goal

pub loop-place-preserved : goal.loop-place-preserved
loop-place-preserved c =
    let was = c.loop-place.text.items in
    text_next_panel delays_line (are_dropped_delays c.args.new.now c.args.kept.now) c.loop-place.place c.args.text.now.items was c.push_delays.new.text.items
    c.loop-place.invariant
    (c.in_ok-push_delays.ensures ∙ ap (λ (b : Bool). was ++ (if b then delays_line (c.loop-place.place + 1) else [])) c.are_dropped_delays-is_dropped.ensures)
