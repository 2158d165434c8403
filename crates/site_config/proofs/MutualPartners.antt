-- Partners of a site read name each other.
use Rattle.std.proofs.Common.{◌≡◌, ℕ, List, Bool, true, false, not, ◌&&◌, Option, Some, None, refl, ap, sym, ◌∙◌}
use Rattle.std.proofs.lemmas.Bool.{and_parts}
use Rattle.std.proofs.lemmas.Slice.Eq.{bytes_eq-Decides}
use Rattle.std.specs.List.{AllByRecursion}
use Rattle.std.specs.Prelude.{slice_get, option_map}
use Rattle.std.specs.Str.{bytes_eq}
use Rattle.site_types.specs.Valid.{IsMutual, PartnersAreMutual, is_partner_type}
use Rattle.site_types.specs.declared.named.Thing.{Thing}
use Rattle.site_types.specs.declared.named.Thing.TheVariants.{Point, Zone, Output, Marker}
use Rattle.site_types.specs.declared.site.Site.{Site}
use Rattle.site_types.specs.declared.zone.Zone.{Zone as ZonePlan}
use Rattle.site_document.specs.declared.draft.Draft.{Draft}
use Rattle.site_document.specs.declared.draft_zone.DraftZone.{DraftZone}
use Rattle.site_document.specs.Refusals.{partner_not_mutual}
use Rattle.site_config.specs.Claims.{named_in, twice_in}
use Rattle.site_config.specs.Crossing.{place_or_zero}
use Rattle.site_config.specs.NoSuch.{zone_place}
use Rattle.site_config.specs.Partners.{is_mutual, is_named, mutual_fault, mutual_missing, unmutual_in, zone_at}
use Rattle.site_config.specs.Placing.{SeenZone, partner_place, placed_zone, zone_view}
use Rattle.site_config.proofs.ListsAlike.{by_place, inner, like_at}
use Rattle.site_config.proofs.SiteForms.{SeenAs}
use Rattle.site_config.proofs.NamedParts.{bears, borne_by}
use Rattle.site_config.proofs.CleanKeys.{all_none, passed}

faults : (look : List ℕ → Option Thing) (zones : List DraftZone) → unmutual_in look zones ≡ None
    → AllByRecursion (λ z. mutual_fault look zones z ≡ None) zones
unfolding unmutual_in
faults look zones e = all_none (mutual_fault look zones) zones e

fault_at : (look : List ℕ → Option Thing) (zones : List DraftZone) (z : DraftZone) → mutual_fault look zones z ≡ None
    → mutual_missing look zones z z.partner ≡ None
unfolding mutual_fault
fault_at look zones z e = e

-- the partner that a name stands for
pub record IsCouple (draft : Draft) (zone : DraftZone) (name : List ℕ) (o : Option Thing) : Type 0 where
  pub place : ℕ
  pub partner : DraftZone
  pub is : o ≡ Some (Zone place)
  pub at : slice_get draft.zones place ≡ Some partner
  pub true_of : is_mutual zone name (Some partner) ≡ true

couple_here : (draft : Draft) (zone : DraftZone) (name : List ℕ) (n : ℕ) (o : Option DraftZone) → slice_get draft.zones n ≡ o
    → is_mutual zone name o ≡ true
    → IsCouple draft zone name (Some (Zone n))
couple_here draft zone name n None at e = absurd (cc e)
couple_here draft zone name n (Some p) at e = record { place = n; partner = p; is = refl; at = at; true_of = e }

couple_of : (draft : Draft) (zone : DraftZone) (name : List ℕ) (o : Option Thing) → is_mutual zone name (zone_at draft.zones (zone_place o)) ≡ true
    → IsCouple draft zone name o
couple_of draft zone name None e = absurd (cc e)
couple_of draft zone name (Some (Point n)) e = absurd (cc e)
couple_of draft zone name (Some (Output n)) e = absurd (cc e)
couple_of draft zone name (Some (Marker n)) e = absurd (cc e)
couple_of draft zone name (Some (Zone n)) e = couple_here draft zone name n (slice_get draft.zones n) refl e

not_true : (b : Bool) → not b ≡ true → b ≡ false
not_true true e = absurd (cc e)
not_true false e = refl

pub record IsSure (zone : DraftZone) (name : List ℕ) (partner : DraftZone) : Type 0 where
  pub apart : bytes_eq name zone.name ≡ false
  pub back : is_named zone.name partner.partner ≡ true
  pub same_type : is_partner_type zone.rule partner.rule ≡ true

sure : (zone : DraftZone) (name : List ℕ) (partner : DraftZone) → is_mutual zone name (Some partner) ≡ true → IsSure zone name partner
sure zone name partner e =
    let parts = and_parts (not (bytes_eq name zone.name) && is_named zone.name partner.partner) (is_partner_type zone.rule partner.rule) e in
    let first = and_parts (not (bytes_eq name zone.name)) (is_named zone.name partner.partner) parts.0 in
    record { apart = not_true (bytes_eq name zone.name) first.0; back = first.1; same_type = parts.1 }

back_place : (draft : Draft) (zone : DraftZone) (place : ℕ) (o : Option (List ℕ)) → twice_in draft ≡ None → slice_get draft.zones place ≡ Some zone
    → is_named zone.name o ≡ true → partner_place (named_in draft) o ≡ Some place
back_place draft zone place None once at e = absurd (cc e)
back_place draft zone place (Some other) once at e =
    let same : other ≡ zone.name = (bytes_eq-Decides other zone.name).0 e in
    let stands : named_in draft zone.name ≡ Some (Zone place) =
    bears draft (Zone place) zone.name once (ap (option_map (λ (z : DraftZone). z.name)) at) in
    let look = ap (named_in draft) same ∙ stands in ap (λ o'. Some (place_or_zero (zone_place o'))) look

two_names : (draft : Draft) (n : ℕ) (p : DraftZone) (name : List ℕ) → slice_get draft.zones n ≡ Some p → named_in draft name ≡ Some (Zone n)
    → p.name ≡ name
two_names draft n p name at e =
    inner p.name name (sym (ap (option_map (λ (z : DraftZone). z.name)) at) ∙ borne_by draft name (Zone n) e)

one_at : (zones : List DraftZone) (j k : ℕ) (a b : DraftZone) → j ≡ k → slice_get zones j ≡ Some a → slice_get zones k ≡ Some b → a ≡ b
one_at zones j k a b e at bt = inner a b (sym at ∙ ap (slice_get zones) e ∙ bt)

apart_so : (draft : Draft) (place n : ℕ) (zone p : DraftZone) (name : List ℕ) → slice_get draft.zones place ≡ Some zone
    → slice_get draft.zones n ≡ Some p
    → named_in draft name ≡ Some (Zone n) → bytes_eq name zone.name ≡ false → n ≡ place → ⊥
apart_so draft place n zone p name at bt look apart e =
    let same : p ≡ zone = one_at draft.zones n place p zone e bt at in
    let names : name ≡ zone.name = sym (two_names draft n p name bt look) ∙ ap (λ (z : DraftZone). z.name) same in
    let alike : bytes_eq name zone.name ≡ true = (bytes_eq-Decides name zone.name).1 names in cc (alike, apart)

mutual_by : (draft : Draft) (site : Site) (place other : ℕ) (zone partner : ZonePlan) (d q : DraftZone) (named : Option (List ℕ))
    → twice_in draft ≡ None
    → mutual_missing (named_in draft) draft.zones d named ≡ None → slice_get draft.zones place ≡ Some d → slice_get draft.zones other ≡ Some q
    → zone_view zone ≡ placed_zone (named_in draft) d → zone_view partner ≡ placed_zone (named_in draft) q
    → partner_place (named_in draft) named ≡ Some other
    → IsMutual place zone other partner
unfolding placed_zone
mutual_by draft site place other zone partner d q None once clean at bt seen seen' is = absurd (cc is)
mutual_by draft site place other zone partner d q (Some name) once clean at bt seen seen' is =
    let look = named_in draft in
    let couple = couple_of draft d name (look name)
    (passed (is_mutual d name (zone_at draft.zones (zone_place (look name)))) None (partner_not_mutual d.name) clean) in
    let here : couple.place ≡ other = inner couple.place other (sym (ap (λ o. Some (place_or_zero (zone_place o))) couple.is) ∙ is) in
    let same : couple.partner ≡ q = one_at draft.zones couple.place other couple.partner q here couple.at bt in
    let facts = sure d name couple.partner couple.true_of in
    let back : partner_place look q.partner ≡ Some place =
    back_place draft d place q.partner once at (ap (λ (z : DraftZone). is_named d.name z.partner) (sym same) ∙ facts.back) in
    let types : is_partner_type d.rule q.rule ≡ true = ap (λ (z : DraftZone). is_partner_type d.rule z.rule) (sym same) ∙ facts.same_type in record {
      apart = λ e. apart_so draft place couple.place d couple.partner name at couple.at couple.is facts.apart (here ∙ e);
      back = ap (λ (s : SeenZone). s.partner) seen' ∙ back;
      same_type =
          ap (λ (s : SeenZone). is_partner_type s.rule partner.rule) seen ∙ ap (λ (s : SeenZone). is_partner_type d.rule s.rule) seen' ∙ types;
    }

pub couples : (draft : Draft) (site : Site) → SeenAs (named_in draft) draft site → twice_in draft ≡ None
    → unmutual_in (named_in draft) draft.zones ≡ None
    → PartnersAreMutual site
unfolding placed_zone
couples draft site seen once e place other zone partner at is bt =
    let look = named_in draft in
    let (d, there, same) = like_at zone_view (placed_zone look) site.zones draft.zones seen.zones place zone at in
    let (q, there', same') = like_at zone_view (placed_zone look) site.zones draft.zones seen.zones other partner bt in
    let clean =
    fault_at look draft.zones d (by_place (λ z. mutual_fault look draft.zones z ≡ None) draft.zones (faults look draft.zones e) place d there) in
    mutual_by draft site place other zone partner d q d.partner once clean there there' same same' (ap (λ (s : SeenZone). s.partner) (sym same) ∙ is)
