-- What is named in a site read is there.
use Rattle.std.proofs.Common.{◌≡◌, ◌≤◌, ◌<◌, ℕ, zero, suc, List, [], ◌∷◌, Bool, true, false, ◌&&◌, ◌||◌, ◌==◌, nat_le}
use Rattle.std.proofs.Common.{Option, Some, None, is_some, option_map, map, length, refl, ap, sym, subst, ◌∙◌, arith}
use Rattle.std.proofs.Common.{eqb-true, if◌then◌else◌}
use Rattle.std.proofs.lemmas.Bool.{and_parts, leb-true}
use Rattle.std.proofs.lemmas.Option.{slice_get_within}
use Rattle.std.specs.Fmt.{decimal}
use Rattle.std.specs.List.{AllByRecursion, list_any}
use Rattle.std.specs.Prelude.{slice_get, All, codes, ◌++◌}
use Rattle.site_types.specs.Limits.{most_panels}
use Rattle.site_types.specs.Valid.{HasAddress, HasReferences, HasZone, IsTerm}
use Rattle.site_types.specs.declared.loop_plan.LoopPlan.{LoopPlan}
use Rattle.site_types.specs.declared.marker.Marker.{Marker as MarkerPlan}
use Rattle.site_types.specs.declared.named.Thing.{Thing}
use Rattle.site_types.specs.declared.named.Thing.TheVariants.{Point, Zone, Output, Marker}
use Rattle.site_types.specs.declared.output.Output.{Output as OutputPlan}
use Rattle.site_types.specs.declared.point.Point.{Point as PointPlan}
use Rattle.site_types.specs.declared.site.Site.{Site}
use Rattle.site_types.specs.declared.term.Term.{Term}
use Rattle.site_types.specs.declared.zone.Zone.{Zone as ZonePlan}
use Rattle.site_document.specs.declared.draft.Draft.{Draft}
use Rattle.site_document.specs.declared.draft_marker.DraftMarker.{DraftMarker}
use Rattle.site_document.specs.declared.draft_output.DraftOutput.{DraftOutput}
use Rattle.site_document.specs.declared.draft_point.DraftPoint.{DraftPoint}
use Rattle.site_document.specs.declared.draft_term.DraftTerm.{DraftTerm}
use Rattle.site_document.specs.declared.draft_term.DraftTerm.TheVariants as term
use Rattle.site_document.specs.declared.draft_zone.DraftZone.{DraftZone}
use Rattle.site_document.specs.Refusals.{first_found, no_such}
use Rattle.site_config.specs.Claims.{named_in, twice_in}
use Rattle.site_config.specs.Crossing.{place_or_zero}
use Rattle.site_config.specs.NoSuch.{is_loop_of, is_panel_of, is_zone_of, marker_fault, marker_place, no_such_in, output_fault, partner_fault, partner_missing, point_fault, term_fault, zone_place}
use Rattle.site_config.specs.Placing.{SeenMarker, SeenOutput, SeenPoint, SeenZone, marker_view, output_view}
use Rattle.site_config.specs.Placing.{partner_place, placed_marker, placed_output, placed_point, placed_term}
use Rattle.site_config.specs.Placing.{placed_zone, point_view, zone_view}
use Rattle.site_config.proofs.ListsAlike.{all_by_place, all_from, as_long, by_place, like_at}
use Rattle.site_config.proofs.DraftForms.{byte_small}
use Rattle.site_config.proofs.SiteForms.{HasDraftForms, SeenAs}
use Rattle.site_config.proofs.NamedParts.{borne_by}
use Rattle.site_config.proofs.CleanKeys.{all_none, none_first, none_later, passed}

-- ---- what is found nowhere

pub record NoneMissing (look : List ℕ → Option Thing) (draft : Draft) : Type 0 where
  pub partners : AllByRecursion (λ z. partner_fault look draft.zones z ≡ None) draft.zones
  pub points : AllByRecursion (λ p. point_fault look draft.loops draft.zones p ≡ None) draft.points
  pub outputs : AllByRecursion (λ o. output_fault look o ≡ None) draft.outputs
  pub markers : AllByRecursion (λ m. marker_fault look draft.panels m ≡ None) draft.markers

pub none_missing : (look : List ℕ → Option Thing) (draft : Draft) → no_such_in look draft ≡ None → NoneMissing look draft
unfolding no_such_in
none_missing look draft e =
    let points = none_later (first_found (partner_fault look draft.zones) draft.zones) _ e in
    let outputs = none_later (first_found (point_fault look draft.loops draft.zones) draft.points) _ points in
    let markers = none_later (first_found (output_fault look) draft.outputs) _ outputs in record {
      partners = all_none (partner_fault look draft.zones) draft.zones (none_first (first_found (partner_fault look draft.zones) draft.zones) _ e);
      points =
          all_none (point_fault look draft.loops draft.zones) draft.points
          (none_first (first_found (point_fault look draft.loops draft.zones) draft.points) _ points);
      outputs = all_none (output_fault look) draft.outputs (none_first (first_found (output_fault look) draft.outputs) _ outputs);
      markers = all_none (marker_fault look draft.panels) draft.markers markers;
    }

-- ---- zones

pub record IsZoneAt (zones : List DraftZone) (panel : ℕ) (o : Option ℕ) : Type 0 where
  pub place : ℕ
  pub zone : DraftZone
  pub is : o ≡ Some place
  pub at : slice_get zones place ≡ Some zone
  pub at_panel : zone.panel ≡ panel

zone_here : (zones : List DraftZone) (panel place : ℕ) (o : Option DraftZone) → slice_get zones place ≡ o → is_panel_of panel o ≡ true
    → IsZoneAt zones panel (Some place)
zone_here zones panel place None at e = absurd (cc e)
zone_here zones panel place (Some z) at e = record { place = place; zone = z; is = refl; at = at; at_panel = eqb-true z.panel panel e }

zone_there : (zones : List DraftZone) (panel : ℕ) (o : Option ℕ) → is_zone_of zones panel o ≡ true → IsZoneAt zones panel o
zone_there zones panel None e = absurd (cc e)
zone_there zones panel (Some place) e = zone_here zones panel place (slice_get zones place) refl e

-- the zone of the site at the place that a name stands for
pub site_zone : (look : List ℕ → Option Thing) (draft : Draft) (site : Site) → SeenAs look draft site → (panel place : ℕ) (o : Option ℕ)
    → IsZoneAt draft.zones panel o
    → place ≡ place_or_zero o → HasZone site panel place
unfolding placed_zone
site_zone look draft site seen panel place o h e =
    let (z, at, same) = like_at (placed_zone look) zone_view draft.zones site.zones (sym seen.zones) h.place h.zone h.at in
    let here : place ≡ h.place = e ∙ ap place_or_zero h.is in record {
      zone = z;
      is = ap (slice_get site.zones) here ∙ at;
      at_panel = ap (λ (s : SeenZone). s.panel) (sym same) ∙ h.at_panel;
    }

-- ---- points

low_so : (a b c : ℕ) → a ≡ b → b ≤ c → a ≤ c
low_so a b c e h = rw e h

below_so : (a b m n : ℕ) → a ≡ b → m ≡ n → b < n → a < m
below_so a b m n e f h = rw (e, f) h

point_parts : (look : List ℕ → Option Thing) (loops : List LoopPlan) (zones : List DraftZone) (p : DraftPoint) → point_fault look loops zones p ≡ None
    → (list_any (is_loop_of p) loops ≡ true) × (is_zone_of zones p.panel (zone_place (look p.zone)) ≡ true)
unfolding point_fault
point_parts look loops zones p e = (
  passed (list_any (is_loop_of p) loops) None (no_such p.name)
      (none_first (if list_any (is_loop_of p) loops then None else Some (no_such p.name)) _ e),
  passed (is_zone_of zones p.panel (zone_place (look p.zone))) None (no_such p.zone)
      (none_later (if list_any (is_loop_of p) loops then None else Some (no_such p.name)) _ e),
)

abbrev IsSome : (LoopPlan → Bool) → List LoopPlan → Type 0
IsSome test loops = (k : ℕ) × (plan : LoopPlan) × (slice_get loops k ≡ Some plan) × (test plan ≡ true)

some_later : (test : LoopPlan → Bool) (plan : LoopPlan) (rest : List LoopPlan) → IsSome test rest → IsSome test (plan ∷ rest)
some_later test plan rest (k, p, at, e) = (suc k, p, at, e)

some_by : (test : LoopPlan → Bool) (plan : LoopPlan) (rest : List LoopPlan) (b : Bool) → test plan ≡ b → (b ≡ false → IsSome test rest)
    → IsSome test (plan ∷ rest)
some_by test plan rest true e later = (zero, plan, refl, e)
some_by test plan rest false e later = some_later test plan rest (later refl)

or_right : (a b : Bool) → (a || b) ≡ true → a ≡ false → b ≡ true
or_right true b e f = absurd (cc f)
or_right false b e f = e

some_place : (test : LoopPlan → Bool) (loops : List LoopPlan) → list_any test loops ≡ true → IsSome test loops
some_place test [] e = absurd (cc e)
some_place test (plan ∷ rest) e =
    some_by test plan rest (test plan) refl (λ f. some_place test rest (or_right (test plan) (list_any test rest) e f))

point_zone : (look : List ℕ → Option Thing) (draft : Draft) (site : Site) → SeenAs look draft site → NoneMissing look draft → (k : ℕ) (p : PointPlan)
    → slice_get site.points k ≡ Some p → HasZone site p.panel p.zone
unfolding placed_point
point_zone look draft site seen none k p at =
    let (d, there, same) = like_at point_view (placed_point look) site.points draft.points seen.points k p at in
    let parts =
    point_parts look draft.loops draft.zones d (by_place (λ q. point_fault look draft.loops draft.zones q ≡ None) draft.points none.points k d
    there) in
    let panel : p.panel ≡ d.panel = ap (λ (s : SeenPoint). s.panel) same in
    let P : ℕ → Type 0 = λ n. HasZone site n p.zone in
    subst P (sym panel)
    (site_zone look draft site seen d.panel p.zone (zone_place (look d.zone)) (zone_there draft.zones d.panel (zone_place (look d.zone)) parts.1)
    (ap (λ (s : SeenPoint). s.zone) same))

point_loop : (look : List ℕ → Option Thing) (draft : Draft) (site : Site) → SeenAs look draft site → NoneMissing look draft → (k : ℕ) (p : PointPlan)
    → slice_get site.points k ≡ Some p → HasAddress site p.panel p.line p.address
unfolding placed_point
point_loop look draft site seen none k p at =
    let (d, there, same) = like_at point_view (placed_point look) site.points draft.points seen.points k p at in
    let parts =
    point_parts look draft.loops draft.zones d (by_place (λ q. point_fault look draft.loops draft.zones q ≡ None) draft.points none.points k d
    there) in
    let (n, plan, on, is) = some_place (is_loop_of d) draft.loops parts.0 in
    let ends = and_parts ((plan.panel == d.panel) && (plan.line == d.line)) (nat_le d.address plan.last) is in
    let keys = and_parts (plan.panel == d.panel) (plan.line == d.line) ends.0 in
    let panel : d.panel ≡ p.panel = ap (λ (s : SeenPoint). s.panel) (sym same) in
    let line : d.line ≡ p.line = ap (λ (s : SeenPoint). s.line) (sym same) in
    let address : p.address ≡ d.address = ap (λ (s : SeenPoint). s.address) same in
    let low : d.address ≤ plan.last = leb-true d.address plan.last ends.1 in record {
      place = n;
      plan = plan;
      is = ap (λ (ls : List LoopPlan). slice_get ls n) seen.loops ∙ on;
      at_panel = eqb-true plan.panel d.panel keys.0 ∙ panel;
      at_line = eqb-true plan.line d.line keys.1 ∙ line;
      within = low_so p.address d.address plan.last address low;
    }

-- ---- partners, outputs and markers

partner_zone_by : (look : List ℕ → Option Thing) (draft : Draft) (site : Site) → SeenAs look draft site → (panel : ℕ) (partner : Option (List ℕ))
    → partner_missing look draft.zones panel partner ≡ None → (place : ℕ) → partner_place look partner ≡ Some place → HasZone site panel place
partner_zone_by look draft site seen panel None e place is = absurd (cc is)
partner_zone_by look draft site seen panel (Some name) e place is =
    site_zone look draft site seen panel place (zone_place (look name))
    (zone_there draft.zones panel (zone_place (look name)) (passed (is_zone_of draft.zones panel (zone_place (look name))) None (no_such name) e))
    (cc is)

partner_at : (look : List ℕ → Option Thing) (zones : List DraftZone) (z : DraftZone) → partner_fault look zones z ≡ None
    → partner_missing look zones z.panel z.partner ≡ None
unfolding partner_fault
partner_at look zones z e = e

partner_zone : (look : List ℕ → Option Thing) (draft : Draft) (site : Site) → SeenAs look draft site → NoneMissing look draft → (k : ℕ) (z : ZonePlan)
    → slice_get site.zones k ≡ Some z → (place : ℕ) → z.partner ≡ Some place → HasZone site z.panel place
unfolding placed_zone
partner_zone look draft site seen none k z at place is =
    let (d, there, same) = like_at zone_view (placed_zone look) site.zones draft.zones seen.zones k z at in
    let clean = partner_at look draft.zones d (by_place (λ q. partner_fault look draft.zones q ≡ None) draft.zones none.partners k d there) in
    let panel : z.panel ≡ d.panel = ap (λ (s : SeenZone). s.panel) same in
    let P : ℕ → Type 0 = λ n. HasZone site n place in
    subst P (sym panel) (partner_zone_by look draft site seen d.panel d.partner clean place (ap (λ (s : SeenZone). s.partner) (sym same) ∙ is))

there_by : {X : Type 0} (f : X → List ℕ) (xs : List X) (k : ℕ) (o : Option X) (name : List ℕ) → slice_get xs k ≡ o → option_map f o ≡ Some name
    → k < length xs
there_by f xs k None name at e = absurd (cc e)
there_by f xs k (Some x) name at e = slice_get_within xs k x at

marker_by : (draft : Draft) (name : List ℕ) (o : Option Thing) → twice_in draft ≡ None → named_in draft name ≡ o → is_some (marker_place o) ≡ true
    → place_or_zero (marker_place o) < length draft.markers
marker_by draft name None once e there = absurd (cc there)
marker_by draft name (Some (Point n)) once e there = absurd (cc there)
marker_by draft name (Some (Zone n)) once e there = absurd (cc there)
marker_by draft name (Some (Output n)) once e there = absurd (cc there)
marker_by draft name (Some (Marker n)) once e there =
    there_by (λ (m : DraftMarker). m.name) draft.markers n (slice_get draft.markers n) name refl (borne_by draft name (Marker n) e)

zone_by : (draft : Draft) (name : List ℕ) (o : Option Thing) → twice_in draft ≡ None → named_in draft name ≡ o → is_some (zone_place o) ≡ true
    → place_or_zero (zone_place o) < length draft.zones
zone_by draft name None once e there = absurd (cc there)
zone_by draft name (Some (Point n)) once e there = absurd (cc there)
zone_by draft name (Some (Marker n)) once e there = absurd (cc there)
zone_by draft name (Some (Output n)) once e there = absurd (cc there)
zone_by draft name (Some (Zone n)) once e there =
    there_by (λ (z : DraftZone). z.name) draft.zones n (slice_get draft.zones n) name refl (borne_by draft name (Zone n) e)

output_at : (look : List ℕ → Option Thing) (o : DraftOutput) → output_fault look o ≡ None → is_some (marker_place (look o.marker)) ≡ true
unfolding output_fault
output_at look o e = passed (is_some (marker_place (look o.marker))) None (no_such o.marker) e

output_marker : (draft : Draft) (site : Site) → SeenAs (named_in draft) draft site → twice_in draft ≡ None → NoneMissing (named_in draft) draft
    → (k : ℕ) (o : OutputPlan)
    → slice_get site.outputs k ≡ Some o → o.marker < length site.markers
unfolding placed_output
output_marker draft site seen once none k o at =
    let look = named_in draft in
    let (d, there, same) = like_at output_view (placed_output look) site.outputs draft.outputs seen.outputs k o at in
    let clean = output_at look d (by_place (λ q. output_fault look q ≡ None) draft.outputs none.outputs k d there) in
    let marker : o.marker ≡ place_or_zero (marker_place (look d.marker)) = ap (λ (s : SeenOutput). s.marker) same in
    let long : length site.markers ≡ length draft.markers = as_long marker_view (placed_marker look) site.markers draft.markers seen.markers in
    below_so o.marker (place_or_zero (marker_place (look d.marker))) (length site.markers) (length draft.markers) marker long
    (marker_by draft d.marker (look d.marker) once refl clean)

term_there : (draft : Draft) (site : Site) → SeenAs (named_in draft) draft site → twice_in draft ≡ None → draft.panels ≤ most_panels → (t : DraftTerm)
    → term_fault (named_in draft) draft.panels t ≡ None → IsTerm site (placed_term (named_in draft) t)
unfolding term_fault
term_there draft site seen once few (term.Zone name) e =
    let long : length site.zones ≡ length draft.zones = as_long zone_view (placed_zone (named_in draft)) site.zones draft.zones seen.zones in
    below_so _ _ (length site.zones) (length draft.zones) refl long
    (zone_by draft name (named_in draft name) once refl (passed (is_some (zone_place (named_in draft name))) None (no_such name) e))
term_there draft site seen once few (term.Manual name) e =
    let long : length site.zones ≡ length draft.zones = as_long zone_view (placed_zone (named_in draft)) site.zones draft.zones seen.zones in
    below_so _ _ (length site.zones) (length draft.zones) refl long
    (zone_by draft name (named_in draft name) once refl (passed (is_some (zone_place (named_in draft name))) None (no_such name) e))
term_there draft site seen once few (term.Marker name) e =
    let long : length site.markers ≡ length draft.markers =
    as_long marker_view (placed_marker (named_in draft)) site.markers draft.markers seen.markers in
    below_so _ _ (length site.markers) (length draft.markers) refl long
    (marker_by draft name (named_in draft name) once refl (passed (is_some (marker_place (named_in draft name))) None (no_such name) e))
term_there draft site seen once few (term.Fault panel) e =
    let parts = and_parts (nat_le 1 panel) (nat_le panel draft.panels)
    (passed (nat_le 1 panel && nat_le panel draft.panels) None (no_such (codes "fault:" ++ decimal panel)) e) in
    let low : 1 ≤ panel = leb-true 1 panel parts.0 in
    let high : panel ≤ draft.panels = leb-true panel draft.panels parts.1 in
    rw (byte_small panel (omega arith), seen.panels) (low, high)

terms_there : (draft : Draft) (site : Site) → SeenAs (named_in draft) draft site → twice_in draft ≡ None → draft.panels ≤ most_panels
    → (ts : List DraftTerm)
    → AllByRecursion (λ t. term_fault (named_in draft) draft.panels t ≡ None) ts
    → AllByRecursion (IsTerm site) (map (placed_term (named_in draft)) ts)
terms_there draft site seen once few [] all = tt
terms_there draft site seen once few (t ∷ ts) all = (term_there draft site seen once few t all.0, terms_there draft site seen once few ts all.1)

marker_at : (look : List ℕ → Option Thing) (panels : ℕ) (m : DraftMarker) → marker_fault look panels m ≡ None
    → AllByRecursion (λ t. term_fault look panels t ≡ None) m.terms
unfolding marker_fault
marker_at look panels m e = all_none (term_fault look panels) m.terms e

marker_terms : (draft : Draft) (site : Site) → SeenAs (named_in draft) draft site → twice_in draft ≡ None → draft.panels ≤ most_panels
    → NoneMissing (named_in draft) draft → (k : ℕ) (m : MarkerPlan) → slice_get site.markers k ≡ Some m → All (IsTerm site) m.terms
unfolding placed_marker
marker_terms draft site seen once few none k m at =
    let look = named_in draft in
    let (d, there, same) = like_at marker_view (placed_marker look) site.markers draft.markers seen.markers k m at in
    let clean = marker_at look draft.panels d (by_place (λ q. marker_fault look draft.panels q ≡ None) draft.markers none.markers k d there) in
    let terms : map (placed_term look) d.terms ≡ m.terms = ap (λ (s : SeenMarker). s.terms) (sym same) in
    let P : List Term → Type 0 = λ ts. All (IsTerm site) ts in
    subst P terms (all_from (IsTerm site) (map (placed_term look) d.terms) (terms_there draft site seen once few d.terms clean))

pub references : (draft : Draft) (site : Site) → SeenAs (named_in draft) draft site → twice_in draft ≡ None → HasDraftForms draft
    → no_such_in (named_in draft) draft ≡ None → HasReferences site
references draft site seen once forms e =
    let none = none_missing (named_in draft) draft e in record {
      zone_of_point = all_by_place (λ (p : PointPlan). HasZone site p.panel p.zone) site.points (point_zone (named_in draft) draft site seen none);
      loop_of_point =
          all_by_place (λ (p : PointPlan). HasAddress site p.panel p.line p.address) site.points (point_loop (named_in draft) draft site seen none);
      partner_of_zone = all_by_place (λ (z : ZonePlan). (place : ℕ) → z.partner ≡ Some place → HasZone site z.panel place) site.zones
          (partner_zone (named_in draft) draft site seen none);
      marker_of_output = all_by_place (λ (o : OutputPlan). o.marker < length site.markers) site.outputs (output_marker draft site seen once none);
      terms = all_by_place (λ (m : MarkerPlan). All (IsTerm site) m.terms) site.markers (marker_terms draft site seen once forms.panels.1 none);
    }
