-- Which events befall a panel alone.
use Rattle.std.specs.Prelude.{ℕ, ◌==◌, Bool, false, Option, Some, None, slice_get}
use Rattle.site_types.specs.declared.event.Event.{Event}
use Rattle.site_types.specs.declared.event.Event.TheVariants.{Point, Cable, Supply, Link, Confirmed, Op}
use Rattle.site_types.specs.declared.output.Output.{Output}
use Rattle.site_types.specs.declared.point.Point.{Point as PointPlan}
use Rattle.site_types.specs.declared.site.Site.{Site}

abbrev pub is_point_of : ℕ → Option PointPlan → Bool
is_point_of panel None = false
is_point_of panel (Some point) = point.panel == panel

abbrev pub is_output_of : ℕ → Option Output → Bool
is_output_of panel None = false
is_output_of panel (Some output) = output.panel == panel

-- an event is of a point, a loop, a supply or an output of the panel, or an operation at it; a link is no panel's
abbrev pub is_event_of : Site → ℕ → Event → Bool
is_event_of site panel (Point point state) = is_point_of panel (slice_get site.points point)
is_event_of site panel (Cable other line piece state) = other == panel
is_event_of site panel (Supply other kind bad) = other == panel
is_event_of site panel (Link link up) = false
is_event_of site panel (Confirmed output) = is_output_of panel (slice_get site.outputs output)
is_event_of site panel (Op other code operation) = other == panel
