-- Whether a site has a thing of a kind and a name.
use Rattle.std.specs.Prelude.{ℕ, Bool, true, false, List}
use Rattle.std.specs.List.{list_any}
use Rattle.std.specs.Str.{bytes_eq}
use Rattle.dropped_settings.specs.declared.kind.Kind.{Kind}
use Rattle.dropped_settings.specs.declared.kind.Kind.TheVariants as kind
use Rattle.site_types.specs.declared.site.Site.{Site}
use Rattle.site_types.specs.declared.point.Point.{Point as PointPlan}
use Rattle.site_types.specs.declared.zone.Zone.{Zone as ZonePlan}
use Rattle.site_types.specs.declared.output.Output.{Output as OutputPlan}
use Rattle.site_types.specs.declared.named.Thing.{Thing}
use Rattle.site_types.specs.declared.named.Thing.TheVariants.{Point, Zone, Output}

-- the site has a thing of this kind and name
abbrev pub has_name : Site → Kind → List ℕ → Bool
has_name site kind.Point name = list_any (λ (p : PointPlan). bytes_eq p.name.bytes name) site.points
has_name site kind.Zone name = list_any (λ (z : ZonePlan). bytes_eq z.name.bytes name) site.zones
has_name site kind.Output name = list_any (λ (o : OutputPlan). bytes_eq o.name.bytes name) site.outputs

-- the kind of a thing
abbrev pub is_of_kind : Kind → Thing → Bool
is_of_kind kind.Point (Point place) = true
is_of_kind kind.Zone (Zone place) = true
is_of_kind kind.Output (Output place) = true
is_of_kind _ _ = false
