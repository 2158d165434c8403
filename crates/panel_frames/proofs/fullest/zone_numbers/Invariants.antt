use Rattle.std.proofs.Common.{◌≡◌, ◌<◌, ℕ, false, slice_index_or, length, take}
use Rattle.std.specs.List.{list_any}
use Rattle.panel_frames.specs.Grammar.{is_panel_zone}
use Rattle.panel_frames.proofs.fullest.zone_numbers.Given as goal

abbrev pub invariant-loop-zone : goal.invariant-loop-zone
invariant-loop-zone l = record {
  size : length l.numbers ≡ 256;
  known : (number : ℕ) → number < 256
      → slice_index_or l.numbers number false ≡ list_any (is_panel_zone l.panel number) (take l.zone-index l.zones);
}
