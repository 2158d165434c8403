-- What a name of a site stands for, and which loop a number does.
use Rattle.std.specs.Prelude.{◌==◌, ◌&&◌, ℕ, List, [], ◌∷◌, Option, Some, None, slice_get, option_map, if◌then◌else◌}
use Rattle.std.specs.List.{find}
use Rattle.std.specs.Str.{bytes_eq}
use Rattle.site_types.specs.declared.loop_plan.LoopPlan.{LoopPlan}
use Rattle.site_types.specs.declared.site.Site.{Site}
use Rattle.site_types.specs.declared.point.Point.{Point as PointPlan}
use Rattle.site_types.specs.declared.zone.Zone.{Zone as ZonePlan}
use Rattle.site_types.specs.declared.output.Output.{Output as OutputPlan}
use Rattle.site_types.specs.declared.marker.Marker.{Marker as MarkerPlan}
use Rattle.site_types.specs.declared.named.Named.{Named}
use Rattle.site_types.specs.declared.named.Thing.{Thing}
use Rattle.site_types.specs.declared.named.Thing.TheVariants.{Point, Zone, Output, Marker}

-- the name of a thing of the site, if there is one at its place
abbrev pub name_at : Site → Thing → Option (List ℕ)
name_at site (Point place) = option_map (λ (point : PointPlan). point.name.bytes) (slice_get site.points place)
name_at site (Zone place) = option_map (λ (zone : ZonePlan). zone.name.bytes) (slice_get site.zones place)
name_at site (Output place) =
    option_map (λ (output : OutputPlan). output.name.bytes) (slice_get site.outputs place)
name_at site (Marker place) =
    option_map (λ (marker : MarkerPlan). marker.name.bytes) (slice_get site.markers place)

-- the thing that a name stands for in a list of names
abbrev pub thing_in : List Named → List ℕ → Option Thing
thing_in [] name = None
thing_in (named ∷ rest) name = if bytes_eq named.name.bytes name then Some named.thing else thing_in rest name

-- the thing of the site with a name
abbrev pub thing_named : Site → List ℕ → Option Thing
thing_named site name = thing_in site.names name

-- the output of a panel with a number
abbrev pub numbered_output : Site → ℕ → ℕ → Option OutputPlan
numbered_output site panel number =
    find (λ (output : OutputPlan). (output.panel == panel) && (output.number == number)) site.outputs

-- the loop of a panel with a number
abbrev pub loop_of : Site → ℕ → ℕ → Option LoopPlan
loop_of site panel line = find (λ (plan : LoopPlan). (plan.panel == panel) && (plan.line == line)) site.loops
