-- Masks that are exactly some facts: what they tell of each zone and panel, and the masks of what counts by hand.
use Rattle.std.proofs.Common.{◌≡◌, ◌≤◌, ◌<◌, ◌+◌, ◌-◌, ◌&&◌, ℕ, zero, suc, Bool, true, false, List, [], ◌∷◌, length}
use Rattle.std.proofs.Common.{map, replicate, Some, slice_get, refl, sym, ◌∙◌, ap, arith}
use Rattle.std.specs.Prelude.{nat_lt, slice_index_or}
use Rattle.std.specs.List.{range_with_len}
use Rattle.site_types.specs.declared.site.Site.{Site}
use Rattle.site_types.specs.declared.zone.Zone.{Zone}
use Rattle.site_types.specs.Bits.{has_bit, mask_of}
use Rattle.site_types.specs.Valid.{IsPanel, IsValid}
use Rattle.site_types.proofs.Done.{lt_true}
use Rattle.site_types.proofs.Masks.{has_bit-mask, mask_below, mask_empty}
use Rattle.site_types.proofs.ValidSites.{zone_at}
use Rattle.marker_table.specs.declared.facts.Facts.{Facts as Masks}
use Rattle.marker_table.specs.Equations.{zone_bit}
use Rattle.coincidence_rules.specs.Places.{zones_where}
use Rattle.coincidence_rules.proofs.ValidWired.{wired_of}
use Rattle.coincidence_rules.proofs.ZoneMasks.{has_bit-zone}
use Rattle.cause_effect.proofs.Changing.{AreEqual}
use Rattle.panel_rules.specs.Markers.{Facts, hand_facts}
use Rattle.panel_bridges.specs.FactMasks.{AreFacts, AreZones}
use Rattle.output_calls.specs.SilenceCalls.{zone_masks}
use Rattle.output_calls.proofs.ZoneMasks.{no_zones}
use Rattle.panel_effects.specs.Masks.{AreMasksOf, hand_masks, no_facts, panel_mask}

get_there : {X : Type 0} (xs : List X) (k : ℕ) → k < length xs → (x : X) × (slice_get xs k ≡ Some x)
get_there [] k l = absurd (omega (arith, l))
get_there (x ∷ xs) zero l = (x, refl)
get_there (x ∷ xs) (suc k) l = get_there xs k (omega (arith, l))

map_at : (f : ℕ → ℕ) (from count k : ℕ) → k < count → slice_index_or (map f (range_with_len from count)) k 0 ≡ f (from + k)
map_at f from zero k small = absurd (omega arith)
map_at f from (suc count) zero small = let at : from ≡ from + 0 = omega arith in ap f at
map_at f from (suc count) (suc k) small =
    map_at f (from + 1) count k (omega (arith, small)) ∙ (let next : from + 1 + k ≡ from + suc k = omega arith in ap f next)

-- ---- facts of masks

mask_there : (site : Site) (test : ℕ → Bool) (panel : ℕ) → 1 ≤ panel → panel ≤ 8
    → slice_index_or (zone_masks site test) (panel - 1) 0 ≡ zones_where site panel test
mask_there site test panel low high =
    map_at (λ q. zones_where site q test) 1 8 (panel - 1) (omega (arith, low, high))
    ∙ (let same : 1 + (panel - 1) ≡ panel = omega (arith, low) in ap (λ q. zones_where site q test) same)

zone_there : (site : Site) → IsValid site → (test : ℕ → Bool) (zone : ℕ) (plan : Zone) → slice_get site.zones zone ≡ Some plan
    → zone_bit (zone_masks site test) (Some plan) ≡ test zone
zone_there site valid test zone plan at =
    let panel = (zone_at site valid zone plan at).panel in
    let panels = valid.forms.panels in
    ap (λ mask. has_bit mask (plan.number - 1)) (mask_there site test plan.panel panel.0 (omega (arith, panel.1, panels.1)))
    ∙ has_bit-zone site test zone plan (wired_of site valid) at

zones_are : (site : Site) → IsValid site → (test : ℕ → Bool) (masks : List ℕ) → masks ≡ zone_masks site test → AreZones site test masks
zones_are site valid test masks is zone small =
    let there = get_there site.zones zone small in
    ap (λ (xs : List ℕ). zone_bit xs (slice_get site.zones zone)) is
    ∙ ap (zone_bit (zone_masks site test)) there.1
    ∙ zone_there site valid test zone there.0 there.1

fault_there : (site : Site) → IsValid site → (test : ℕ → Bool) (panel : ℕ) → IsPanel site panel → has_bit (panel_mask site test) (panel - 1) ≡ test panel
fault_there site valid test panel p =
    let most = valid.forms.panels.1 in
    let same : panel - 1 + 1 ≡ panel = omega (arith, p.0) in
    has_bit-mask 8 (λ k. nat_lt k site.panels && test (k + 1)) (panel - 1) (omega (arith, p.0, p.1, most))
    ∙ ap (λ b. b && test (panel - 1 + 1)) (lt_true (panel - 1) site.panels (omega (arith, p.0, p.1)))
    ∙ ap test same

-- masks that are exactly the facts are those facts for the zones and panels of the site
pub facts_are : (site : Site) → IsValid site → (facts : Facts) (masks : Masks) → AreMasksOf site facts masks → AreFacts site facts masks
facts_are site valid facts masks are = record {
  released = zones_are site valid facts.released masks.zones are.zones;
  by_hand = zones_are site valid facts.by_hand masks.manual are.manual;
  faulty = λ panel p. ap (λ mask. has_bit mask (panel - 1)) are.faults ∙ fault_there site valid facts.faulty panel p;
}

-- ---- masks of facts

no_panels : (site : Site) → 0 ≡ panel_mask site (λ panel. false)
no_panels site =
    sym (mask_empty 8 (mask_of 8 none) (mask_below 8 none) (λ k small. has_bit-mask 8 none k small ∙ never (nat_lt k site.panels)))
  where
    none : ℕ → Bool
    none k = nat_lt k site.panels && false

    never : (b : Bool) → (b && false) ≡ false
    never true = refl
    never false = refl

-- no bit where no fact is true
pub no_masks : (site : Site) (masks : Masks) → masks.zones ≡ replicate 8 0 → masks.manual ≡ replicate 8 0 → masks.faults ≡ 0
    → AreMasksOf site no_facts masks
no_masks site masks zones manual faults = record {
  zones = zones ∙ no_zones site;
  manual = manual ∙ no_zones site;
  faults = faults ∙ no_panels site;
}

-- what counts by hand
pub hand_masks_are : (site : Site) (facts : Facts) (masks : Masks) → AreMasksOf site facts masks
    → AreMasksOf site (hand_facts facts) (hand_masks masks)
hand_masks_are site facts masks are = record { zones = are.manual; manual = are.manual; faults = no_panels site }

-- masks that equal those of facts are theirs
pub equal_masks : (site : Site) (facts : Facts) (masks others : Masks) → AreEqual others masks → AreMasksOf site facts masks
    → AreMasksOf site facts others
equal_masks site facts masks others same are = record {
  zones = same.zones ∙ are.zones;
  manual = same.manual ∙ are.manual;
  faults = same.faults ∙ are.faults;
}

-- and what counts by hand is equal then
pub equal_hands : (masks others : Masks) → AreEqual masks others → AreEqual (hand_masks masks) (hand_masks others)
equal_hands masks others same = record { zones = same.manual; manual = same.manual; faults = refl }
