use Rattle.std.proofs.Common.{◌≡◌, ◌<◌, ℕ, length}
use Rattle.std.specs.Prelude.{Some, slice_get, slice_index}
use Rattle.panel_conditions.specs.Changes.{ShowsAs}
use Rattle.panel_conditions.specs.Shown.{entries_after}
use Rattle.panel_parts.specs.declared.parts.Parts.{Parts}
use Rattle.panel_parts.proofs.kept_counts.entries_of.Given as goal

-- those of the first panels are told
abbrev pub invariant-loop-place : goal.invariant-loop-place
invariant-loop-place l = record {
  size : length l.entries ≡ 8;
  told : (place : ℕ) (parts : Parts) → slice_get l.panels place ≡ Some parts → place < l.place
      → ShowsAs parts.hold (slice_index l.entries place) entries_after;
}
