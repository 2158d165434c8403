-- What a changed site keeps of what was retained for the site before: by name and kind; delays and counters
-- by panel.
use Rattle.std.specs.Prelude.{ℕ, ◌-◌, Bool, true, false, List, ◌++◌, Some, map, take, replicate, nat_lt, ◌&&◌}
use Rattle.std.specs.Prelude.{slice_get}
use Rattle.std.specs.List.{list_any, filter}
use Rattle.std.specs.Str.{bytes_eq}
use Rattle.site_types.specs.declared.site.Site.{Site}
use Rattle.site_types.specs.declared.point.Point.{Point as PointPlan}
use Rattle.site_types.specs.declared.zone.Zone.{Zone as ZonePlan}
use Rattle.site_types.specs.declared.output.Output.{Output as OutputPlan}
use Rattle.site_types.specs.declared.retained.Retained.{Retained}
use Rattle.site_types.specs.declared.change.Change.{Change}
use Rattle.site_types.specs.declared.change.Change.TheVariants.{Point, Zone, Output, Test}
use Rattle.site_types.specs.declared.named.Thing.{Thing}
use Rattle.site_types.specs.declared.named.Thing.TheVariants.{Point as PointThing, Zone as ZoneThing}
use Rattle.site_types.specs.declared.named.Thing.TheVariants.{Output as OutputThing}
use Rattle.site_types.specs.declared.restriction.Restriction.{Restriction}
use Rattle.site_types.specs.declared.restriction.Restriction.TheVariants.{PointOff, ZoneOff, OutputOff, InTest}
use Rattle.site_types.specs.Bits.{has_bit, mask_of}
use Rattle.site_types.specs.Done.{kept_point, kept_zone, kept_output, kept_test}
use Rattle.site_types.specs.Changes.{changed_by, nothing_retained}

-- whether the old site has a point, a zone or an output of this name that is disabled, or a zone of this
-- name that is in test
abbrev pub point_was_off : Site → Retained → List ℕ → Bool
point_was_off old state name =
    list_any (λ (p : PointPlan). bytes_eq p.name.bytes name && kept_point state (Some p)) old.points

abbrev pub zone_was_off : Site → Retained → List ℕ → Bool
zone_was_off old state name =
    list_any (λ (z : ZonePlan). bytes_eq z.name.bytes name && kept_zone state (Some z)) old.zones

abbrev pub output_was_off : Site → Retained → List ℕ → Bool
output_was_off old state name =
    list_any (λ (o : OutputPlan). bytes_eq o.name.bytes name && kept_output state (Some o)) old.outputs

abbrev pub zone_was_tested : Site → Retained → List ℕ → Bool
zone_was_tested old state name =
    list_any (λ (z : ZonePlan). bytes_eq z.name.bytes name && kept_test state (Some z)) old.zones

-- whether the old site has a thing of this name and kind that was restricted so
abbrev pub was_restricted : Site → Retained → Restriction → List ℕ → Bool
was_restricted old state PointOff name = point_was_off old state name
was_restricted old state ZoneOff name = zone_was_off old state name
was_restricted old state OutputOff name = output_was_off old state name
was_restricted old state InTest name = zone_was_tested old state name

-- whether a thing of a site is restricted so, a thing of another kind being not
abbrev pub is_restricted : Site → Retained → Restriction → Thing → Bool
is_restricted site state PointOff (PointThing place) = kept_point state (slice_get site.points place)
is_restricted site state ZoneOff (ZoneThing place) = kept_zone state (slice_get site.zones place)
is_restricted site state OutputOff (OutputThing place) = kept_output state (slice_get site.outputs place)
is_restricted site state InTest (ZoneThing place) = kept_test state (slice_get site.zones place)
is_restricted site state _ _ = false

-- the disablements and tests of the new site that come from the old one
abbrev pub point_changes : Site → Site → Retained → List Change
point_changes old new state =
    map (λ (p : PointPlan). Point p.panel p.line p.address true)
    (filter (λ (p : PointPlan). point_was_off old state p.name.bytes) new.points)

abbrev pub zone_changes : Site → Site → Retained → List Change
zone_changes old new state =
    map (λ (z : ZonePlan). Zone z.panel z.number true)
    (filter (λ (z : ZonePlan). zone_was_off old state z.name.bytes) new.zones)

abbrev pub output_changes : Site → Site → Retained → List Change
output_changes old new state =
    map (λ (o : OutputPlan). Output o.panel o.number true)
    (filter (λ (o : OutputPlan). output_was_off old state o.name.bytes) new.outputs)

abbrev pub test_changes : Site → Site → Retained → List Change
test_changes old new state =
    map (λ (z : ZonePlan). Test z.panel z.number true)
    (filter (λ (z : ZonePlan). zone_was_tested old state z.name.bytes) new.zones)

-- the delays and the counters of the panels that the new site has
abbrev pub carried_delays : ℕ → ℕ → ℕ
carried_delays panels delays_off = mask_of 8 (λ k. nat_lt k panels && has_bit delays_off k)

abbrev pub carried_counters : ℕ → List ℕ → List ℕ
carried_counters panels counters = take panels counters ++ replicate (8 - panels) 0

-- what the new site begins with; what is named nowhere here is dropped
abbrev pub carried : Site → Site → Retained → Retained
carried old new state =
    record
    (changed_by (point_changes old new state ++ zone_changes old new state ++ output_changes old new state
    ++ test_changes old new state) nothing_retained) {
      delays_off = carried_delays new.panels state.delays_off;
      counters = carried_counters new.panels state.counters;
    }
