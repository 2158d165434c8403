-- Names and numbers of a draft that name nothing of their kind, where this says what a name stands for.
use Rattle.std.specs.Prelude.{ℕ, ◌&&◌, ◌==◌, ◌++◌, List, Bool, false, nat_le, Option, Some, None, is_some, slice_get}
use Rattle.std.specs.Prelude.{codes, if◌then◌else◌}
use Rattle.std.specs.Fmt.{decimal}
use Rattle.std.specs.List.{list_any}
use Rattle.site_types.specs.declared.loop_plan.LoopPlan.{LoopPlan}
use Rattle.site_types.specs.declared.named.Thing.{Thing}
use Rattle.site_types.specs.declared.named.Thing.TheVariants.{Point, Zone, Output, Marker}
use Rattle.site_document.specs.declared.draft.Draft.{Draft}
use Rattle.site_document.specs.declared.draft_marker.DraftMarker.{DraftMarker}
use Rattle.site_document.specs.declared.draft_output.DraftOutput.{DraftOutput}
use Rattle.site_document.specs.declared.draft_point.DraftPoint.{DraftPoint}
use Rattle.site_document.specs.declared.draft_term.DraftTerm.{DraftTerm}
use Rattle.site_document.specs.declared.draft_term.DraftTerm.TheVariants as term
use Rattle.site_document.specs.declared.draft_zone.DraftZone.{DraftZone}
use Rattle.site_document.specs.Refusals.{Refusal, no_such, or_later, first_found}

-- the place of the zone, or of the marker, that a name stands for
abbrev pub zone_place : Option Thing → Option ℕ
zone_place None = None
zone_place (Some (Point place)) = None
zone_place (Some (Zone place)) = Some place
zone_place (Some (Output place)) = None
zone_place (Some (Marker place)) = None

abbrev pub marker_place : Option Thing → Option ℕ
marker_place None = None
marker_place (Some (Point place)) = None
marker_place (Some (Zone place)) = None
marker_place (Some (Output place)) = None
marker_place (Some (Marker place)) = Some place

-- the zone is of the panel
abbrev pub is_panel_of : ℕ → Option DraftZone → Bool
is_panel_of panel None = false
is_panel_of panel (Some zone) = zone.panel == panel

abbrev pub is_zone_of : List DraftZone → ℕ → Option ℕ → Bool
is_zone_of zones panel None = false
is_zone_of zones panel (Some place) = is_panel_of panel (slice_get zones place)

-- a partner is a zone of the same panel
abbrev pub partner_missing : (List ℕ → Option Thing) → List DraftZone → ℕ → Option (List ℕ) → Option Refusal
partner_missing look zones panel None = None
partner_missing look zones panel (Some name) =
    if is_zone_of zones panel (zone_place (look name)) then None else Some (no_such name)

unfoldable pub partner_fault : (List ℕ → Option Thing) → List DraftZone → DraftZone → Option Refusal
partner_fault look zones zone = partner_missing look zones zone.panel zone.partner

-- the loop is the point's, and has its address
abbrev pub is_loop_of : DraftPoint → LoopPlan → Bool
is_loop_of point plan = (plan.panel == point.panel) && (plan.line == point.line)
    && nat_le point.address plan.last

-- a point has a listed loop with its address, and a zone of the same panel
unfoldable pub point_fault : (List ℕ → Option Thing) → List LoopPlan → List DraftZone → DraftPoint
    → Option Refusal
point_fault look loops zones point =
    or_later (if list_any (is_loop_of point) loops then None else Some (no_such point.name))
    (if is_zone_of zones point.panel (zone_place (look point.zone)) then None else Some (no_such point.zone))

unfoldable pub output_fault : (List ℕ → Option Thing) → DraftOutput → Option Refusal
output_fault look output =
    if is_some (marker_place (look output.marker)) then None else Some (no_such output.marker)

abbrev pub zone_missing : (List ℕ → Option Thing) → List ℕ → Option Refusal
zone_missing look name = if is_some (zone_place (look name)) then None else Some (no_such name)

-- a term names a zone, a panel of the site or a marker
unfoldable pub term_fault : (List ℕ → Option Thing) → ℕ → DraftTerm → Option Refusal
term_fault look panels (term.Zone name) = zone_missing look name
term_fault look panels (term.Manual name) = zone_missing look name
term_fault look panels (term.Fault panel) =
    if nat_le 1 panel && nat_le panel panels then None else Some (no_such (codes "fault:" ++ decimal panel))
term_fault look panels (term.Marker name) =
    if is_some (marker_place (look name)) then None else Some (no_such name)

unfoldable pub marker_fault : (List ℕ → Option Thing) → ℕ → DraftMarker → Option Refusal
marker_fault look panels marker = first_found (term_fault look panels) marker.terms

-- the first of these, zones before points, outputs and markers
unfoldable pub no_such_in : (List ℕ → Option Thing) → Draft → Option Refusal
no_such_in look draft =
    or_later (first_found (partner_fault look draft.zones) draft.zones)
    (or_later (first_found (point_fault look draft.loops draft.zones) draft.points)
    (or_later (first_found (output_fault look) draft.outputs)
    (first_found (marker_fault look draft.panels) draft.markers)))
