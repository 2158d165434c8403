-- The operations that were done, as the code has them: the oldest first.
use Rattle.std.specs.Prelude.{◌≡◌, ℕ, ◌≤◌, ◌||◌, Bool, false, List, [], ◌∷◌, Option, Some, None, slice_get}
use Rattle.std.specs.Prelude.{if◌then◌else◌}
use Rattle.site_types.specs.declared.point.Point.{Point as PointPlan}
use Rattle.site_types.specs.declared.retained.Retained.{Retained}
use Rattle.site_types.specs.declared.site.Site.{Site}
use Rattle.site_types.specs.Done.{Done, Setting, PointOff, ZoneOff, InTest, at_opening, is_on, value_set}
use Rattle.blocked_points.specs.declared.done_operation.DoneOperation.{DoneOperation}

abbrev pub as_done : DoneOperation → Done
as_done d = record { tick = d.tick.0; panel = d.panel; operation = d.operation }

abbrev pub and_later_done : List DoneOperation → List Done → List Done
and_later_done [] before = before
and_later_done (d ∷ later) before = and_later_done later (as_done d ∷ before)

-- the operations as the rules have them, the newest first
abbrev pub done_newest_first : List DoneOperation → List Done
done_newest_first operations = and_later_done operations []

-- none was done in an earlier tick than one before it
abbrev pub AreDoneInOrder : List DoneOperation → Type 0
AreDoneInOrder operations = (j k : ℕ) (a b : DoneOperation) → j ≤ k → slice_get operations j ≡ Some a
    → slice_get operations k ≡ Some b → a.tick.0 ≤ b.tick.0

-- the value of a setting once all of these were done
abbrev pub value_behind : Site → Retained → List Done → Setting → Bool
value_behind site kept [] setting = at_opening site kept setting
value_behind site kept (d ∷ before) setting =
    if is_on setting d then value_set d.operation else value_behind site kept before setting

abbrev pub is_zone_blocked_after : Site → Retained → List Done → Option PointPlan → Bool
is_zone_blocked_after site kept done None = false
is_zone_blocked_after site kept done (Some p) = value_behind site kept done (ZoneOff p.zone)
    || value_behind site kept done (InTest p.zone)

-- whether a point is blocked once all of these were done
abbrev pub is_blocked_after : Site → Retained → List Done → ℕ → Bool
is_blocked_after site kept done point = value_behind site kept done (PointOff point)
    || is_zone_blocked_after site kept done (slice_get site.points point)
