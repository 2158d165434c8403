-- Masks of what may have been heard, one zone or panel after another.
use Rattle.std.proofs.Common.{◌≡◌, ◌≢◌, ◌↔◌, ℕ, zero, suc, ◌+◌, ◌-◌, ◌≤◌, ◌<◌, Bool, true, List, [], ◌∷◌, length, None, Some, slice_get, inl, inr, sym, ◌∙◌, ap, subst, arith}
use Rattle.std.specs.Prelude.{IsTrue}
use Rattle.std.proofs.lemmas.Bool.Decides.{leb_tells}
use Rattle.site_types.specs.declared.site.Site.{Site}
use Rattle.site_types.specs.declared.zone.Zone.{Zone}
use Rattle.site_types.specs.Bits.{has_bit}
use Rattle.site_types.specs.Valid.{IsValid}
use Rattle.site_types.proofs.ValidSites.{zone_at}
use Rattle.marker_table.specs.Equations.{zone_bit}
use Rattle.asked_markers.specs.Marks.{SetsZone}

-- the masks tell of the zones before a place
abbrev pub TellZonesBelow : Site → (ℕ → Type 0) → List ℕ → ℕ → Type 0
TellZonesBelow site Holds masks count = (zone : ℕ) → zone < count → zone < length site.zones
    → (zone_bit masks (slice_get site.zones zone) ≡ true) ↔ Holds zone

pub zones_more : (site : Site) (Holds : ℕ → Type 0) (count : ℕ) (on : Bool) (old new : List ℕ) → SetsZone site count on old new
    → IsTrue on ↔ Holds count → TellZonesBelow site Holds old count → TellZonesBelow site Holds new (count + 1)
zones_more site Holds count on old new sets is below zone l within =
    elim (leb_tells count zone) [
      | inl h ↦ (let k = h.1 in let e : zone ≡ count = omega (arith, k, l) in
          subst (λ z. (zone_bit new (slice_get site.zones z) ≡ true) ↔ Holds z) (sym e)
          (λ b. is.0 (sym sets.this ∙ b), λ c. sets.this ∙ is.1 c))
      | inr h ↦ (let k = h.1 in
          let same = sets.others zone within (omega (arith, k)) in
          let was = below zone k within in
          (λ b. was.0 (sym same ∙ b), λ c. same ∙ was.1 c))
    ]

-- what is told once more of a zone that there is
pub zone_told : (site : Site) (Holds : ℕ → Type 0) (place : ℕ) (plan : Zone) (on : Bool) (old set new : List ℕ) → new ≡ set → slice_get site.zones place ≡ Some plan
    → (slice_get site.zones place ≡ Some plan → SetsZone site place on old set) → (slice_get site.zones place ≡ Some plan → IsTrue on ↔ Holds place)
    → TellZonesBelow site Holds old place → TellZonesBelow site Holds new (place + 1)
zone_told site Holds place plan on old set new is at sets tells below =
    subst (λ masks. TellZonesBelow site Holds masks (place + 1)) (sym is) (zones_more site Holds place on old set (sets at) (tells at) below)

pub no_item : {X : Type 0} (xs : List X) (place : ℕ) → place < length xs → slice_get xs place ≡ None → ⊥
no_item [] place l e = omega (arith, l)
no_item (x ∷ xs) zero l e = absurd cc
no_item (x ∷ xs) (suc place) l e = no_item xs place (omega (arith, l)) e

-- a zone of a valid site has a panel and a number
pub zone_ranges : (site : Site) → IsValid site → (place : ℕ) (plan : Zone) → slice_get site.zones place ≡ Some plan
    → (1 ≤ plan.panel) × (plan.panel ≤ 8) × (1 ≤ plan.number) × (plan.number ≤ 32)
zone_ranges site valid place plan at =
    let is = zone_at site valid place plan at in
    let panel = is.panel in
    let panels = valid.forms.panels.1 in
    (panel.0, omega (arith, panel.1, panels), is.number.0, is.number.1)

-- the mask tells of the panels before a place
abbrev pub TellPanelsBelow : (ℕ → Type 0) → ℕ → ℕ → Type 0
TellPanelsBelow Holds mask count = (source : ℕ) → 1 ≤ source → source ≤ count → (has_bit mask (source - 1) ≡ true) ↔ Holds source

pub panels_more : (Holds : ℕ → Type 0) (count : ℕ) (on : Bool) (old new : ℕ) → count < 8 → has_bit new count ≡ on
    → ((k : ℕ) → k < 8 → k ≢ count → has_bit new k ≡ has_bit old k) → IsTrue on ↔ Holds (count + 1)
    → TellPanelsBelow Holds old count → TellPanelsBelow Holds new (count + 1)
panels_more Holds count on old new small this others is below source one l =
    elim (leb_tells source count) [
      | inl h ↦ (let k = h.1 in
          let same = others (source - 1) (omega (arith, k, small)) (omega (arith, k, one)) in
          let was = below source one k in
          (λ b. was.0 (sym same ∙ b), λ c. same ∙ was.1 c))
      | inr h ↦ (let k = h.1 in
          let e : source ≡ count + 1 = omega (arith, k, l) in
          let p : source - 1 ≡ count = omega (arith, e) in
          (λ b. subst Holds (sym e) (is.0 (sym this ∙ ap (has_bit new) (sym p) ∙ b)), λ c. ap (has_bit new) p ∙ this ∙ is.1 (subst Holds e c)))
    ]
