-- The site that a draft spells, with places in place of names. Labels are seen as their bytes.
use Rattle.std.specs.Prelude.{ℕ, List, Bool, Option, Some, None, map}
use Rattle.site_types.specs.declared.combine.Combine.{Combine}
use Rattle.site_types.specs.declared.loop_plan.LoopPlan.{LoopPlan}
use Rattle.site_types.specs.declared.marker.Marker.{Marker}
use Rattle.site_types.specs.declared.named.Thing.{Thing}
use Rattle.site_types.specs.declared.output.Output.{Output}
use Rattle.site_types.specs.declared.output_kind.OutputKind.{OutputKind}
use Rattle.site_types.specs.declared.point.Point.{Point}
use Rattle.site_types.specs.declared.rule.Rule.{Rule}
use Rattle.site_types.specs.declared.site.Site.{Site}
use Rattle.site_types.specs.declared.term.Term.{Term}
use Rattle.site_types.specs.declared.term.Term.TheVariants as placed
use Rattle.site_types.specs.declared.waits.Waits.{Waits}
use Rattle.site_types.specs.declared.zone.Zone.{Zone}
use Rattle.site_document.specs.declared.draft.Draft.{Draft}
use Rattle.site_document.specs.declared.draft_marker.DraftMarker.{DraftMarker}
use Rattle.site_document.specs.declared.draft_output.DraftOutput.{DraftOutput}
use Rattle.site_document.specs.declared.draft_point.DraftPoint.{DraftPoint}
use Rattle.site_document.specs.declared.draft_term.DraftTerm.{DraftTerm}
use Rattle.site_document.specs.declared.draft_term.DraftTerm.TheVariants as term
use Rattle.site_document.specs.declared.draft_zone.DraftZone.{DraftZone}
use Rattle.site_document.specs.Drafts.{byte_of}
use Rattle.site_config.specs.Crossing.{place_or_zero}
use Rattle.site_config.specs.NoSuch.{zone_place, marker_place}

-- ---- a site, its labels as their bytes

pub record SeenZone : Type 0 where
  pub name : List ℕ
  pub panel : ℕ
  pub number : ℕ
  pub rule : Rule
  pub partner : Option ℕ

pub record SeenPoint : Type 0 where
  pub name : List ℕ
  pub panel : ℕ
  pub line : ℕ
  pub address : ℕ
  pub zone : ℕ
  pub manual : Bool

pub record SeenOutput : Type 0 where
  pub name : List ℕ
  pub panel : ℕ
  pub number : ℕ
  pub kind : OutputKind
  pub marker : ℕ
  pub delay : ℕ

pub record SeenMarker : Type 0 where
  pub name : List ℕ
  pub combine : Combine
  pub terms : List Term

pub record SeenSite : Type 0 where
  pub format : ℕ
  pub name : List ℕ
  pub panels : ℕ
  pub waits : Waits
  pub codes : List (List (List ℕ))
  pub loops : List LoopPlan
  pub zones : List SeenZone
  pub points : List SeenPoint
  pub outputs : List SeenOutput
  pub markers : List SeenMarker

abbrev pub zone_view : Zone → SeenZone
zone_view zone = record {
  name = zone.name.bytes;
  panel = zone.panel;
  number = zone.number;
  rule =
      zone.rule;
  partner = zone.partner;
}

abbrev pub point_view : Point → SeenPoint
point_view point =
    record {
      name = point.name.bytes;
      panel = point.panel;
      line = point.line;
      address = point.address;
      zone =
          point.zone;
      manual = point.manual;
    }

abbrev pub output_view : Output → SeenOutput
output_view output =
    record {
      name = output.name.bytes;
      panel = output.panel;
      number = output.number;
      kind =
          output.kind;
      marker = output.marker;
      delay = output.delay;
    }

abbrev pub marker_view : Marker → SeenMarker
marker_view marker = record { name = marker.name.bytes; combine = marker.combine; terms = marker.terms }

abbrev pub site_view : Site → SeenSite
site_view site = record {
  format = site.format;
  name = site.name.bytes;
  panels = site.panels;
  waits = site.waits;
  codes = site.codes;
  loops = site.loops;
  zones = map zone_view site.zones;
  points = map point_view site.points;
  outputs = map output_view site.outputs;
  markers = map marker_view site.markers;
}

-- ---- a draft, where this says what a name stands for

abbrev pub partner_place : (List ℕ → Option Thing) → Option (List ℕ) → Option ℕ
partner_place look None = None
partner_place look (Some name) = Some (place_or_zero (zone_place (look name)))

unfoldable pub placed_zone : (List ℕ → Option Thing) → DraftZone → SeenZone
placed_zone look zone =
    record {
      name = zone.name;
      panel = zone.panel;
      number = zone.number;
      rule = zone.rule;
      partner =
          partner_place look zone.partner;
    }

unfoldable pub placed_point : (List ℕ → Option Thing) → DraftPoint → SeenPoint
placed_point look point = record {
  name = point.name;
  panel = point.panel;
  line = point.line;
  address = point.address;
  zone = place_or_zero (zone_place (look point.zone));
  manual = point.manual;
}

unfoldable pub placed_output : (List ℕ → Option Thing) → DraftOutput → SeenOutput
placed_output look output = record {
  name = output.name;
  panel = output.panel;
  number = output.number;
  kind = output.kind;
  marker = place_or_zero (marker_place (look output.marker));
  delay = output.delay;
}

abbrev pub placed_term : (List ℕ → Option Thing) → DraftTerm → Term
placed_term look (term.Zone name) = placed.Zone (place_or_zero (zone_place (look name)))
placed_term look (term.Manual name) = placed.Manual (place_or_zero (zone_place (look name)))
placed_term look (term.Fault panel) = placed.Fault (byte_of panel)
placed_term look (term.Marker name) = placed.Marker (place_or_zero (marker_place (look name)))

unfoldable pub placed_marker : (List ℕ → Option Thing) → DraftMarker → SeenMarker
placed_marker look marker =
    record { name = marker.name; combine = marker.combine; terms = map (placed_term look) marker.terms }

unfoldable pub placed_site : (List ℕ → Option Thing) → Draft → SeenSite
placed_site look draft = record {
  format = draft.format;
  name = draft.name;
  panels = draft.panels;
  waits = draft.waits;
  codes = draft.codes;
  loops = draft.loops;
  zones = map (placed_zone look) draft.zones;
  points = map (placed_point look) draft.points;
  outputs = map (placed_output look) draft.outputs;
  markers = map (placed_marker look) draft.markers;
}
