-- Where masks tell all that may be true, what they ask for is what some such facts ask for.
use Rattle.std.proofs.Common.{◌≡◌, ◌↔◌, ◌<◌, ◌-◌, ◌&&◌, ℕ, true, length, Option, Some, None, List, refl}
use Rattle.std.proofs.lemmas.Option.{slice_get_within}
use Rattle.std.specs.Prelude.{nat_le, slice_get}
use Rattle.site_types.specs.declared.site.Site.{Site}
use Rattle.site_types.specs.declared.zone.Zone.{Zone as ZonePlan}
use Rattle.site_types.specs.Bits.{has_bit}
use Rattle.site_types.specs.Valid.{IsPanel, IsValid}
use Rattle.marker_table.specs.declared.facts.Facts.{Facts as Masks}
use Rattle.marker_table.specs.Equations.{zone_bit}
use Rattle.panel_rules.specs.Markers.{Facts}
use Rattle.panel_rules.specs.Outputs.{is_true_over}
use Rattle.panel_rules.proofs.Bools.{both, parts}
use Rattle.panel_rules.proofs.Floors.{le_from, le_to}
use Rattle.panel_laws.proofs.Monotony.{Grow, output_grows}
use Rattle.asked_markers.specs.Asking.{IsAskedOver, MayAllBe}
use Rattle.asked_markers.specs.FactsTold.{TellAll, TellZones, facts_told, is_panel_told}

-- a zone that masks tell is one of the site
zone_told : (site : Site) (masks : List ℕ) (zone : ℕ) → zone_bit masks (slice_get site.zones zone) ≡ true → zone < length site.zones
zone_told site masks zone h = go (slice_get site.zones zone) refl h
  where
    go : (o : Option ZonePlan) → slice_get site.zones zone ≡ o → zone_bit masks o ≡ true → zone < length site.zones
    go None is h = absurd cc
    go (Some plan) is h = slice_get_within site.zones zone plan is

of_told : (site : Site) (Holds : ℕ → Type 0) (masks : List ℕ) → TellZones site Holds masks → (zone : ℕ) → zone_bit masks (slice_get site.zones zone) ≡ true → Holds zone
of_told site Holds masks tell zone h = (tell zone (zone_told site masks zone h)).0 h

panel_told : (site : Site) (mask panel : ℕ) → is_panel_told site mask panel ≡ true → IsPanel site panel × (has_bit mask (panel - 1) ≡ true)
panel_told site mask panel h =
    let outer = parts (nat_le 1 panel && nat_le panel site.panels) (has_bit mask (panel - 1)) h in
    let inner = parts (nat_le 1 panel) (nat_le panel site.panels) outer.0 in
    ((le_from 1 panel inner.0, le_from panel site.panels inner.1), outer.1)

pub told_panel : (site : Site) (mask panel : ℕ) → IsPanel site panel → has_bit mask (panel - 1) ≡ true → is_panel_told site mask panel ≡ true
told_panel site mask panel p h =
    both (nat_le 1 panel && nat_le panel site.panels) (has_bit mask (panel - 1))
    (both (nat_le 1 panel) (nat_le panel site.panels) (le_to 1 panel p.0) (le_to panel site.panels p.1)) h

module _ (site : Site) (masks : Masks) (Released ByHand Faulty : ℕ → Type 0) (valid : IsValid site) (tell : TellAll site Released ByHand Faulty masks)
  where
    told_may_be : MayAllBe Released ByHand Faulty (facts_told site masks)
    told_may_be = record {
      released = λ zone h. of_told site Released masks.zones tell.released zone h;
      by_hand = λ zone h. of_told site ByHand masks.manual tell.by_hand zone h;
      faults = λ source h. let p = panel_told site masks.faults source h in (tell.faults source p.0).0 p.1;
    }

    told_is_most : (facts : Facts) → MayAllBe Released ByHand Faulty facts → Grow site facts (facts_told site masks)
    told_is_most facts may = record {
      released = λ zone l h. (tell.released zone l).1 (may.released zone h);
      by_hand = λ zone l h. (tell.by_hand zone l).1 (may.by_hand zone h);
      faulty = λ panel p h. told_panel site masks.faults panel p ((tell.faults panel p).1 (may.faults panel h));
    }

    pub all_facts_decide : (output : ℕ) → (is_true_over site output (facts_told site masks) ≡ true) ↔ IsAskedOver site Released ByHand Faulty output
    all_facts_decide output = (
      λ h. record { facts = facts_told site masks; may_be = told_may_be; asks = h },
      λ asked. output_grows site valid asked.facts (facts_told site masks) (told_is_most asked.facts asked.may_be) output asked.asks,
    )
