use Rattle.std.proofs.Common.{◌≡◌, ◌<◌, ℕ}
use Rattle.std.specs.Prelude.{Some, slice_get, slice_index}
use Rattle.panel_conditions.specs.Changes.{ShowsAs}
use Rattle.panel_conditions.specs.Shown.{entries_after}
use Rattle.panel_parts.specs.declared.parts.Parts.{Parts}
use Rattle.panel_core.proofs.system.System.has_kept_all.Given as goal

-- those of the first panels are kept
abbrev pub invariant-loop-place : goal.invariant-loop-place
invariant-loop-place l = (place : ℕ) (parts : Parts) → slice_get l.self.panels.items place ≡ Some parts → place < l.place
    → ShowsAs parts.hold (slice_index l.self.counts.entries place) entries_after
