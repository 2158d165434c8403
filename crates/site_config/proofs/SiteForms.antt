-- The forms and ranges of a site that a clean document spells.
use Rattle.std.proofs.Common.{◌≡◌, ◌≤◌, ℕ, List, Option, Some, None, IsTrue, map, length, refl, ap, sym, ◌∙◌, arith}
use Rattle.std.proofs.lemmas.List.{length-map}
use Rattle.std.specs.List.{AllByRecursion}
use Rattle.std.specs.Prelude.{slice_get}
use Rattle.toml.specs.Data.{Members}
use Rattle.site_types.specs.Limits.{most_codes, most_markers, most_panels}
use Rattle.site_types.specs.Names.{is_name}
use Rattle.site_types.specs.Valid.{AreWaits, HasForms, IsCombine, IsLoop, IsMarker, IsOutput, IsPoint, IsZone, may_have_partner}
use Rattle.site_types.specs.declared.combine.Combine.{Combine}
use Rattle.site_types.specs.declared.loop_plan.LoopPlan.{LoopPlan}
use Rattle.site_types.specs.declared.marker.Marker.{Marker}
use Rattle.site_types.specs.declared.named.Thing.{Thing}
use Rattle.site_types.specs.declared.output.Output.{Output}
use Rattle.site_types.specs.declared.point.Point.{Point}
use Rattle.site_types.specs.declared.rule.Rule.{Rule}
use Rattle.site_types.specs.declared.site.Site.{Site}
use Rattle.site_types.specs.declared.zone.Zone.{Zone}
use Rattle.site_document.specs.declared.draft.Draft.{Draft}
use Rattle.site_document.specs.declared.key.Key.TheVariants as key
use Rattle.site_document.specs.declared.row_kind.RowKind.TheVariants as kind
use Rattle.site_document.specs.Drafts.{byte_at, digest_from, draft_of, from_table, loop_of, marker_of, output_of, point_of, zone_of}
use Rattle.site_document.specs.Tables.{format_at, items_at}
use Rattle.site_document.specs.Walk.{finding}
use Rattle.site_config.specs.Placing.{SeenMarker, SeenOutput, SeenPoint, SeenSite, SeenZone, marker_view, output_view}
use Rattle.site_config.specs.Placing.{partner_place, placed_marker, placed_output, placed_point, placed_site}
use Rattle.site_config.specs.Placing.{placed_term, placed_zone, point_view, site_view, zone_view}
use Rattle.site_config.proofs.ListsAlike.{all_by_place, all_from, as_long, by_place, like_at}
use Rattle.site_config.proofs.DraftForms.{IsDraftOutput, IsDraftPoint, IsDraftZone, format_small, output_clean, point_clean, zone_clean}
use Rattle.site_config.proofs.DraftLists.{IsDraftLoop, IsDraftMarker, collected_most, loop_clean, marker_clean, panels_clean, top_clean}
use Rattle.site_config.proofs.CleanRows.{clean_lists, clean_top, rows_all}

-- ---- the draft

pub record HasDraftForms (draft : Draft) : Type 0 where
  pub format : (1 ≤ draft.format) × (draft.format ≤ 2)
  pub name : IsTrue (is_name draft.name)
  pub panels : (1 ≤ draft.panels) × (draft.panels ≤ most_panels)
  pub waits : AreWaits draft.format draft.waits
  pub codes : AllByRecursion (λ (level : List (List ℕ)). length level ≤ most_codes) draft.codes
  pub loops : AllByRecursion (IsDraftLoop draft.format draft.panels) draft.loops
  pub zones : AllByRecursion (IsDraftZone draft.format draft.panels) draft.zones
  pub points : AllByRecursion (IsDraftPoint draft.format draft.panels) draft.points
  pub outputs : AllByRecursion (IsDraftOutput draft.format draft.panels) draft.outputs
  pub markers : AllByRecursion IsDraftMarker draft.markers
  pub few_markers : length draft.markers ≤ most_markers

few_of : (n count most : ℕ) → n ≤ count → count ≤ most → n ≤ most
few_of n count most a b = omega arith

pub draft_forms : (doc : Members) → finding doc ≡ None → HasDraftForms (draft_of doc)
unfolding draft_of
draft_forms doc e =
    let clean = clean_top doc e in
    let lists = clean_lists doc e in
    let panels = panels_clean doc clean in
    let top = top_clean doc clean in record {
      format = format_small doc;
      name = top.name;
      panels = top.panels;
      waits = top.waits;
      codes = (
        few_of _ _ most_codes (collected_most digest_from (items_at key.Level2 doc)) top.second,
        (
          few_of _ _ most_codes (collected_most digest_from (items_at key.Level3 doc)) top.third,
          (few_of _ _ most_codes (collected_most digest_from (items_at key.Level4 doc)) top.fourth, tt),
        ),
      );
      loops = rows_all loop_of (IsDraftLoop (format_at doc) (byte_at key.Panels doc)) doc kind.Loop (loop_clean doc panels) 1 (items_at key.Loops doc)
          lists.loops;
      zones = rows_all zone_of (IsDraftZone (format_at doc) (byte_at key.Panels doc)) doc kind.Zone (zone_clean doc panels) 1 (items_at key.Zones doc)
          lists.zones;
      points =
          rows_all point_of (IsDraftPoint (format_at doc) (byte_at key.Panels doc)) doc kind.Point (point_clean doc panels) 1
          (items_at key.Points doc) lists.points;
      outputs =
          rows_all output_of (IsDraftOutput (format_at doc) (byte_at key.Panels doc)) doc kind.Output (output_clean doc panels) 1
          (items_at key.Outputs doc)
          lists.outputs;
      markers = rows_all marker_of IsDraftMarker doc kind.Marker (marker_clean doc) 1 (items_at key.Markers doc) lists.markers;
      few_markers = few_of _ _ most_markers (collected_most (from_table marker_of) (items_at key.Markers doc)) top.markers;
    }

-- ---- the site, part by part

pub record SeenAs (look : List ℕ → Option Thing) (draft : Draft) (site : Site) : Type 0 where
  pub format : site.format ≡ draft.format
  pub name : site.name.bytes ≡ draft.name
  pub panels : site.panels ≡ draft.panels
  pub waits : site.waits ≡ draft.waits
  pub codes : site.codes ≡ draft.codes
  pub loops : site.loops ≡ draft.loops
  pub zones : map zone_view site.zones ≡ map (placed_zone look) draft.zones
  pub points : map point_view site.points ≡ map (placed_point look) draft.points
  pub outputs : map output_view site.outputs ≡ map (placed_output look) draft.outputs
  pub markers : map marker_view site.markers ≡ map (placed_marker look) draft.markers

pub seen_as : (look : List ℕ → Option Thing) (draft : Draft) (site : Site) → site_view site ≡ placed_site look draft → SeenAs look draft site
unfolding placed_site
seen_as look draft site e = record {
  format = ap (λ (s : SeenSite). s.format) e;
  name = ap (λ (s : SeenSite). s.name) e;
  panels = ap (λ (s : SeenSite). s.panels) e;
  waits = ap (λ (s : SeenSite). s.waits) e;
  codes = ap (λ (s : SeenSite). s.codes) e;
  loops = ap (λ (s : SeenSite). s.loops) e;
  zones = ap (λ (s : SeenSite). s.zones) e;
  points = ap (λ (s : SeenSite). s.points) e;
  outputs = ap (λ (s : SeenSite). s.outputs) e;
  markers = ap (λ (s : SeenSite). s.markers) e;
}

partner_stands : (look : List ℕ → Option Thing) (rule : Rule) (partner : Option (List ℕ))
    → ((name : List ℕ) → partner ≡ Some name → IsTrue (may_have_partner rule))
    → (place : ℕ) → partner_place look partner ≡ Some place → IsTrue (may_have_partner rule)
partner_stands look rule None may place e = absurd (cc e)
partner_stands look rule (Some name) may place e = may name refl

zone_form : (look : List ℕ → Option Thing) (draft : Draft) (site : Site) → SeenAs look draft site → HasDraftForms draft → (k : ℕ) (z : Zone)
    → slice_get site.zones k ≡ Some z → IsZone site z
unfolding placed_zone
zone_form look draft site seen forms k z at =
    let (d, there, same) = like_at zone_view (placed_zone look) site.zones draft.zones seen.zones k z at in
    let is = by_place (IsDraftZone draft.format draft.panels) draft.zones forms.zones k d there in
    let name : z.name.bytes ≡ d.name = ap (λ (s : SeenZone). s.name) same in
    let panel : z.panel ≡ d.panel = ap (λ (s : SeenZone). s.panel) same in
    let number : z.number ≡ d.number = ap (λ (s : SeenZone). s.number) same in
    let rule : z.rule ≡ d.rule = ap (λ (s : SeenZone). s.rule) same in
    let partner : z.partner ≡ partner_place look d.partner = ap (λ (s : SeenZone). s.partner) same in record {
      name = rw name is.name;
      panel = rw (panel, seen.panels) is.panel;
      number = rw number is.number;
      rule = rw (seen.format, rule) is.rule;
      partner = λ place e. rw rule (partner_stands look d.rule d.partner is.partner place (sym partner ∙ e));
    }

point_form : (look : List ℕ → Option Thing) (draft : Draft) (site : Site) → SeenAs look draft site → HasDraftForms draft → (k : ℕ) (p : Point)
    → slice_get site.points k ≡ Some p → IsPoint site p
unfolding placed_point
point_form look draft site seen forms k p at =
    let (d, there, same) = like_at point_view (placed_point look) site.points draft.points seen.points k p at in
    let is = by_place (IsDraftPoint draft.format draft.panels) draft.points forms.points k d there in
    let name : p.name.bytes ≡ d.name = ap (λ (s : SeenPoint). s.name) same in
    let panel : p.panel ≡ d.panel = ap (λ (s : SeenPoint). s.panel) same in
    let line : p.line ≡ d.line = ap (λ (s : SeenPoint). s.line) same in
    let address : p.address ≡ d.address = ap (λ (s : SeenPoint). s.address) same in record {
      name = rw name is.name;
      panel = rw (panel, seen.panels) is.panel;
      line = rw line is.line;
      address = rw (address, seen.format) is.address;
    }

output_form : (look : List ℕ → Option Thing) (draft : Draft) (site : Site) → SeenAs look draft site → HasDraftForms draft → (k : ℕ) (o : Output)
    → slice_get site.outputs k ≡ Some o → IsOutput site o
unfolding placed_output
output_form look draft site seen forms k o at =
    let (d, there, same) = like_at output_view (placed_output look) site.outputs draft.outputs seen.outputs k o at in
    let is = by_place (IsDraftOutput draft.format draft.panels) draft.outputs forms.outputs k d there in
    let name : o.name.bytes ≡ d.name = ap (λ (s : SeenOutput). s.name) same in
    let panel : o.panel ≡ d.panel = ap (λ (s : SeenOutput). s.panel) same in
    let number : o.number ≡ d.number = ap (λ (s : SeenOutput). s.number) same in
    let delay : o.delay ≡ d.delay = ap (λ (s : SeenOutput). s.delay) same in record {
      name = rw name is.name;
      panel = rw (panel, seen.panels) is.panel;
      number = rw number is.number;
      delay = rw (delay, seen.format) is.delay;
    }

combine_so : (m n : ℕ) (a b : Combine) → m ≡ n → a ≡ b → IsCombine n b → IsCombine m a
combine_so m n a b e f is = rw (e, f) is

marker_form : (look : List ℕ → Option Thing) (draft : Draft) (site : Site) → SeenAs look draft site → HasDraftForms draft → (k : ℕ) (m : Marker)
    → slice_get site.markers k ≡ Some m → IsMarker m
unfolding placed_marker
marker_form look draft site seen forms k m at =
    let (d, there, same) = like_at marker_view (placed_marker look) site.markers draft.markers seen.markers k m at in
    let is = by_place IsDraftMarker draft.markers forms.markers k d there in
    let name : m.name.bytes ≡ d.name = ap (λ (s : SeenMarker). s.name) same in
    let combine : m.combine ≡ d.combine = ap (λ (s : SeenMarker). s.combine) same in
    let terms : m.terms ≡ map (placed_term look) d.terms = ap (λ (s : SeenMarker). s.terms) same in
    let long : length m.terms ≡ length d.terms = ap length terms ∙ length-map d.terms (placed_term look) in record {
      name = rw name is.name;
      terms = rw long is.terms;
      combine = combine_so (length m.terms) (length d.terms) m.combine d.combine long combine is.combine;
    }

loop_form : (look : List ℕ → Option Thing) (draft : Draft) (site : Site) → SeenAs look draft site → HasDraftForms draft → (k : ℕ) (plan : LoopPlan)
    → slice_get site.loops k ≡ Some plan → IsLoop site plan
loop_form look draft site seen forms k plan at =
    let there : slice_get draft.loops k ≡ Some plan = ap (λ (ls : List LoopPlan). slice_get ls k) (sym seen.loops) ∙ at in
    let is = by_place (IsDraftLoop draft.format draft.panels) draft.loops forms.loops k plan there in record {
      panel = rw seen.panels is.panel;
      line = is.line;
      last = rw seen.format is.last;
      isolators = is.isolators;
    }

pub site_forms : (look : List ℕ → Option Thing) (draft : Draft) (site : Site) → SeenAs look draft site → HasDraftForms draft → HasForms site
site_forms look draft site seen forms = record {
  format = rw seen.format forms.format;
  name = rw seen.name forms.name;
  panels = rw seen.panels forms.panels;
  waits = rw (seen.format, seen.waits) forms.waits;
  codes = rw seen.codes (all_from (λ (level : List (List ℕ)). length level ≤ most_codes) draft.codes forms.codes);
  loops = all_by_place (IsLoop site) site.loops (loop_form look draft site seen forms);
  zones = all_by_place (IsZone site) site.zones (zone_form look draft site seen forms);
  points = all_by_place (IsPoint site) site.points (point_form look draft site seen forms);
  outputs = all_by_place (IsOutput site) site.outputs (output_form look draft site seen forms);
  markers = all_by_place IsMarker site.markers (marker_form look draft site seen forms);
  few_markers = rw (as_long marker_view (placed_marker look) site.markers draft.markers seen.markers) forms.few_markers;
}
