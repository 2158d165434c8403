-- What is kept of the operations in force at a tick.
use Rattle.std.specs.Prelude.{◌≡◌, ℕ, ◌≤◌, ◌<◌, Bool, List, Some, length, slice_get, take}
use Rattle.site_types.specs.declared.point.Point.{Point}
use Rattle.site_types.specs.declared.retained.Retained.{Retained}
use Rattle.site_types.specs.declared.site.Site.{Site}
use Rattle.site_types.specs.Done.{is_blocked}
use Rattle.site_types.specs.Valid.{IsValid}
use Rattle.blocked_points.specs.declared.blocked_points.BlockedPoints.{BlockedPoints}
use Rattle.blocked_points.specs.declared.done_operation.DoneOperation.{DoneOperation}
use Rattle.blocked_points.specs.BlocksStand.{BlocksStand}
use Rattle.blocked_points.specs.Operations.{AreDoneInOrder, done_newest_first}

-- of these operations, the oldest first, those are in force that were done before the tick
pub record StandsFor (site : Site) (kept : Retained) (operations : List DoneOperation) (tick : ℕ) (blocked :
    BlockedPoints) : Type 0 where
  pub in_order : AreDoneInOrder operations
  pub within : blocked.in_force ≤ length operations
  pub earlier : (place : ℕ) (d : DoneOperation) → place < blocked.in_force → slice_get operations place ≡ Some d
      → d.tick.0 < tick
  pub later : (place : ℕ) (d : DoneOperation) → blocked.in_force ≤ place → slice_get operations place ≡ Some d
      → tick ≤ d.tick.0
  pub settings : BlocksStand site kept (done_newest_first (take blocked.in_force operations)) blocked.settings

-- whether a point is blocked at the tick, by whatever operations it stands for
abbrev pub TellsBlocked : BlockedPoints → ℕ → Point → Bool → Type 0
TellsBlocked blocked place point result =
    (site : Site) (kept : Retained) (operations : List DoneOperation) (tick : ℕ) → IsValid site
    → slice_get site.points place ≡ Some point → StandsFor site kept operations tick blocked
    → result ≡ is_blocked site kept (done_newest_first operations) place tick
