use Rattle.std.proofs.Common.{◌≡◌, ℕ, ◌≤◌, ◌<◌, List, length, Some, slice_get}
use Rattle.site_types.specs.declared.retained.Retained.{Retained}
use Rattle.panel_rules.specs.Moments.{TickBlock}
use Rattle.blocked_points.specs.declared.done_operation.DoneOperation.{DoneOperation}
use Rattle.caused_zones.specs.Stands.{PartsAfter}
use Rattle.caused_zones.proofs.caused_parts.CausedParts.undo_each.Given as goal

-- the operations before a place are taken
abbrev pub invariant-loop-place : goal.invariant-loop-place
invariant-loop-place l = (kept : Retained) (ticks : List TickBlock) → l.from ≤ l.end
    → ((place : ℕ) (d : DoneOperation) → l.from ≤ place → place < l.end → slice_get l.done place ≡ Some d → d.tick.0 ≡ length ticks)
    → PartsAfter l.site kept l.done l.from ticks l.initial.self → PartsAfter l.site kept l.done l.place ticks l.self
