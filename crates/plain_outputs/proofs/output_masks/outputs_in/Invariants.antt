use Rattle.std.proofs.Common.{◌≡◌, ◌<◌, ℕ, List, false, length, slice_index_or}
use Rattle.panel_rules.specs.Markers.{Facts}
use Rattle.panel_rules.specs.Moments.{Moment}
use Rattle.plain_outputs.specs.Drives.{DrivesFor}
use Rattle.plain_history.specs.Histories.{all_done}
use Rattle.plain_outputs.specs.Outputs.{is_in_state}
use Rattle.plain_outputs.proofs.output_masks.outputs_in.Given as goal

abbrev pub invariant-loop-place : goal.invariant-loop-place
invariant-loop-place l = record {
  wide : length l.flags ≡ 256;
  told : (facts : ℕ → List Moment → Facts) (history : List Moment) → DrivesFor l.settings.site.now facts history l.driving → (k : ℕ) → k < l.place
      → slice_index_or l.flags k false ≡ is_in_state l.state l.settings.site.now facts l.settings.kept.now (all_done l.settings.done.now) k history;
}
