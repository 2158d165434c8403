use Rattle.std.proofs.Common.{◌≡◌, map}
use Rattle.std.specs.List.{range_with_len}
use Rattle.panel_rules.specs.Timeline.{face_of}
use Rattle.plain_history.specs.Histories.{history}
use Rattle.plain_panel.proofs.faces_now.faces_now.Given as goal

abbrev pub invariant-loop-place : goal.invariant-loop-place
invariant-loop-place l = l.faces.items ≡ map (λ panel. face_of l.site l.kept panel (history l.before)) (range_with_len 1 l.place)
