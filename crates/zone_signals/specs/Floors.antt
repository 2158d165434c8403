-- The floors and cancellings of zones that are known at a tick.
use Rattle.std.specs.Prelude.{◌≡◌, ℕ, ◌≤◌, ◌<◌, Bool, max, List, [], ◌∷◌, Some, slice_get, length, take}
use Rattle.std.specs.Prelude.{if◌then◌else◌}
use Rattle.site_types.specs.declared.site.Site.{Site}
use Rattle.site_types.specs.Done.{Done, cancelled_before, cancels, floor_before, moves_floor}
use Rattle.blocked_points.specs.declared.done_operation.DoneOperation.{DoneOperation}
use Rattle.blocked_points.specs.Operations.{AreDoneInOrder, done_newest_first}
use Rattle.zone_signals.specs.declared.floors.Floors.{Floors}
use Rattle.zone_signals.specs.declared.zone_floor.ZoneFloor.{ZoneFloor}

-- the last floor and the last cancelling of a zone before a tick
pub record IsFloorOf (site : Site) (done : List Done) (now zone : ℕ) (row : ZoneFloor) : Type 0 where
  pub floor : row.floor ≡ floor_before site zone now done
  pub cancelled : row.cancelled ≡ cancelled_before zone now done

-- the last floors and the last cancellings of all zones before a tick, each zone's at its place
pub record AreFloors (site : Site) (done : List Done) (now : ℕ) (rows : List ZoneFloor) : Type 0 where
  pub whole : length rows ≡ length site.zones
  pub each : (zone : ℕ) (row : ZoneFloor) → slice_get rows zone ≡ Some row → IsFloorOf site done now zone row

-- the latest tick of the operations of a kind, else 0
abbrev pub latest_in : (Done → Bool) → List Done → ℕ
latest_in test [] = 0
latest_in test (d ∷ ds) = if test d then max d.tick (latest_in test ds) else latest_in test ds

-- what a zone's row is once all of these operations were done
pub record RowStands (site : Site) (done : List Done) (zone : ℕ) (row : ZoneFloor) : Type 0 where
  pub floor : row.floor ≡ latest_in (moves_floor site zone) done
  pub cancelled : row.cancelled ≡ latest_in (cancels zone) done

-- what the rows of all zones are then
pub record RowsStand (site : Site) (done : List Done) (rows : List ZoneFloor) : Type 0 where
  pub whole : length rows ≡ length site.zones
  pub each : (zone : ℕ) (row : ZoneFloor) → slice_get rows zone ≡ Some row → RowStands site done zone row

-- of these operations, the oldest first, those are taken that were done before the tick
pub record FloorsStand (site : Site) (operations : List DoneOperation) (tick : ℕ) (floors : Floors) : Type 0 where
  pub in_order : AreDoneInOrder operations
  pub within : floors.taken ≤ length operations
  pub earlier : (place : ℕ) (d : DoneOperation) → place < floors.taken → slice_get operations place ≡ Some d
      → d.tick.0 < tick
  pub later : (place : ℕ) (d : DoneOperation) → floors.taken ≤ place → slice_get operations place ≡ Some d
      → tick ≤ d.tick.0
  pub known : RowsStand site (done_newest_first (take floors.taken operations)) floors.rows.items
