-- A zone's bit is no other zone's.
use Rattle.std.proofs.Common.{◌≡◌, ◌≢◌, ◌<◌, ◌-◌, inl, inr, ℕ, zero, suc, Bool, List, [], ◌∷◌, length, get_or, set, Some, refl, sym, ◌∙◌, ap, subst, arith}
use Rattle.std.proofs.lemmas.List.{get_or-set_other, get_or-set_same}
use Rattle.std.proofs.lemmas.Bool.Decides.{eqb_tells}
use Rattle.std.specs.Prelude.{slice_get}
use Rattle.site_types.specs.declared.site.Site.{Site}
use Rattle.site_types.specs.declared.zone.Zone.{Zone}
use Rattle.site_types.specs.Bits.{has_bit}
use Rattle.site_types.specs.Valid.{IsValid}
use Rattle.site_types.proofs.ValidSites.{zone_at}
use Rattle.marker_table.specs.Equations.{zone_bit}
use Rattle.asked_markers.specs.Marks.{SetsZone}

two : (a b c d : ℕ) → a ≡ c → b ≡ d → ◌≡◌ {A = List ℕ} (a ∷ b ∷ []) (c ∷ d ∷ [])
two a b c d p q = cc

module _ (site : Site) (valid : IsValid site) (place : ℕ) (zone : Zone) (at : slice_get site.zones place ≡ Some zone) (on : Bool) (masks : List ℕ) (marked : ℕ)
    (size : length masks ≡ 8) (this : has_bit marked (zone.number - 1) ≡ on)
    (rest : (k : ℕ) → k < 32 → k ≢ zone.number - 1 → has_bit marked k ≡ has_bit (get_or masks (zone.panel - 1) 0) k) where
  abbrev new : List ℕ
  new = set masks (zone.panel - 1) marked

  within : zone.panel - 1 < length masks
  within = let p = (zone_at site valid place zone at).panel in let most = valid.forms.panels.1 in
      let low = p.0 in let high = p.1 in omega (arith, low, high, most, size)

  there : get_or new (zone.panel - 1) 0 ≡ marked
  there = get_or-set_same masks (zone.panel - 1) marked 0 within

  same_panel : (other : ℕ) (z : Zone) → slice_get site.zones other ≡ Some z → other ≢ place → z.panel ≡ zone.panel
      → has_bit (get_or new (z.panel - 1) 0) (z.number - 1) ≡ has_bit (get_or masks (z.panel - 1) 0) (z.number - 1)
  same_panel other z is apart same =
      let n = (zone_at site valid other z is).number in
      let m = (zone_at site valid place zone at).number in
      let differ : z.number - 1 ≢ zone.number - 1 =
      (λ e. apart (valid.twins.zones other place z zone is at (two z.panel z.number zone.panel zone.number same
      (let n0 = n.0 in let m0 = m.0 in omega (arith, e, n0, m0))))) in
      subst (λ p. has_bit (get_or new (p - 1) 0) (z.number - 1) ≡ has_bit (get_or masks (p - 1) 0) (z.number - 1)) (sym same)
      (ap (λ mask. has_bit mask (z.number - 1)) there ∙ rest (z.number - 1) (let n0 = n.0 in let n1 = n.1 in omega (arith, n0, n1)) differ)

  other_panel : (other : ℕ) (z : Zone) → slice_get site.zones other ≡ Some z → z.panel ≢ zone.panel
      → has_bit (get_or new (z.panel - 1) 0) (z.number - 1) ≡ has_bit (get_or masks (z.panel - 1) 0) (z.number - 1)
  other_panel other z is apart =
      let p = (zone_at site valid other z is).panel.0 in
      let q = (zone_at site valid place zone at).panel.0 in
      ap (λ mask. has_bit mask (z.number - 1))
      (get_or-set_other masks (zone.panel - 1) (z.panel - 1) marked 0 (λ e. apart (omega (arith, e, p, q))))

  stays : (other : ℕ) (z : Zone) → slice_get site.zones other ≡ Some z → other ≢ place → zone_bit new (Some z) ≡ zone_bit masks (Some z)
  stays other z is apart =
      elim (eqb_tells z.panel zone.panel) [
        | inl same ↦ same_panel other z is apart same.1
        | inr differ ↦ other_panel other z is differ.1
      ]

  pub sets_zone : SetsZone site place on masks new
  sets_zone = record {
    this = ap (zone_bit new) at ∙ ap (λ mask. has_bit mask (zone.number - 1)) there ∙ this;
    others = λ other l apart. (
        let is = got site.zones other l in
        ap (zone_bit new) is.1 ∙ stays other is.0 is.1 apart ∙ sym (ap (zone_bit masks) is.1));
  }
    where
      got : (zones : List Zone) (k : ℕ) → k < length zones → (z : Zone) × (slice_get zones k ≡ Some z)
      got [] k l = absurd (omega (arith, l))
      got (z ∷ zones) zero l = (z, refl)
      got (z ∷ zones) (suc k) l = got zones k (omega (arith, l))
