use Rattle.std.proofs.Common.{◌≡◌, ◌++◌, [], List, ℕ, ap, ◌∙◌}
use Rattle.site_types.specs.declared.retained.Retained.{Retained}
use Rattle.dropped_settings.specs.Dropped.{counter_lines, delays_lines, output_lines, panels_of, point_lines, test_lines, zone_lines}
use Rattle.dropped_settings.specs.Dropped.{dropped_lines}
use Rattle.dropped_settings.specs.Moved.{moved_line}
use Rattle.dropped_settings.proofs.moving.moved_text.Goals as goal

-- parts that were put behind one another
joined : (a b c d e f none one two three four five six : List ℕ) → none ≡ [] → one ≡ none ++ a → two ≡ one ++ b → three ≡ two ++ c → four ≡ three ++ d
    → five ≡ four ++ e → six ≡ five ++ f → six ≡ a ++ b ++ c ++ d ++ e ++ f
joined a b c d e f none one two three four five six is0 is1 is2 is3 is4 is5 is6 =
    is6
    ∙ ap (λ t. t ++ f) (is5 ∙ ap (λ t. t ++ e) (is4 ∙ ap (λ t. t ++ d) (is3 ∙ ap (λ t. t ++ c) (is2 ∙ ap (λ t. t ++ b) (is1 ∙ ap (λ t. t ++ a) is0)))))

pub returns : goal.returns
returns c =
    let old = c.args.old.now in
    let new = c.args.new.now in
    let kept = c.args.kept.now in
    let dropped : c.push_counters.new.text.items ≡ dropped_lines old new kept =
    joined (point_lines new kept old.points) (zone_lines new kept old.zones) (output_lines new kept old.outputs) (test_lines new kept old.zones)
    (delays_lines new kept (panels_of old)) (counter_lines new kept (panels_of old)) c.new-text.result.items c.push_points.new.text.items
    c.push_zones.new.text.items c.push_outputs.new.text.items c.push_tests.new.text.items c.push_delays_off.new.text.items c.push_counters.new.text.items
    c.new-text.ensures.items c.in_ok-push_points.ensures c.in_ok-push_zones.ensures c.in_ok-push_outputs.ensures c.in_ok-push_tests.ensures
    c.in_ok-push_delays_off.ensures c.in_ok-push_counters.ensures in
    c.from_vec.ensures
    ∙ c.in_ok-extend_from_slice.ensures.items
    ∙ ap (λ t. t ++ c.as_bytes.result.now) dropped
    ∙ ap (λ t. dropped_lines old new kept ++ t) (c.as_bytes.ensures.value ∙ c.as_str.ensures.value ∙ c.moved_line.ensures)
    ∙ ap (λ (state : Retained). dropped_lines old new kept ++ moved_line new state) c.requires.carried
