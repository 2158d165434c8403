-- What the poller of a panel is told of what befell: the events on its points, and on the cables of its
-- loops.
use Rattle.std.specs.Prelude.{ℕ, ◌==◌, ◌&&◌, nat_le, Bool, false, List, [], ◌∷◌, Option, Some, None, slice_get}
use Rattle.std.specs.Prelude.{if◌then◌else◌}
use Rattle.site_types.specs.declared.event.Event.{Event}
use Rattle.site_types.specs.declared.event.Event.TheVariants.{Point, Cable}
use Rattle.site_types.specs.declared.point.Point.{Point as PointPlan}
use Rattle.site_types.specs.declared.site.Site.{Site}
use Rattle.site_types.specs.Limits.{most_loops}
use Rattle.loop_poller.specs.Calls.{Call, Reported, Cabled}
use Rattle.panel_rules.specs.Moments.{Moment, Began, Happened, Turned, Kept}

-- there is a point, and it is of the panel
abbrev pub is_on_panel : ℕ → Option PointPlan → Bool
is_on_panel panel None = false
is_on_panel panel (Some p) = p.panel == panel

-- a loop that a panel may have, of this panel
abbrev pub is_own_loop : ℕ → ℕ → ℕ → Bool
is_own_loop panel other line = (other == panel) && (nat_le 1 line && nat_le line most_loops)

-- an event after these reports: one on a point of the panel, or on a piece of cable of its loops, is told
abbrev pub and_report : Site → ℕ → Event → List Call → List Call
and_report site panel (Point point state) calls =
    if is_on_panel panel (slice_get site.points point) then Reported point state ∷ calls else calls
and_report site panel (Cable other line piece state) calls =
    if is_own_loop panel other line then Cabled line piece state ∷ calls else calls
and_report site panel _ calls = calls

-- all reports so far, the newest first
abbrev pub reports : Site → ℕ → List Moment → List Call
reports site panel [] = []
reports site panel (Began ∷ before) = reports site panel before
reports site panel (Happened event ∷ before) = and_report site panel event (reports site panel before)
reports site panel (Turned other task ∷ before) = reports site panel before
reports site panel (Kept failed ∷ before) = reports site panel before
