-- The facts that masks tell of a site, and masks that tell all that may be true.
use Rattle.std.specs.Prelude.{◌≡◌, ◌<◌, ◌-◌, ◌&&◌, ◌↔◌, nat_le, ℕ, Bool, true, List, length, slice_get}
use Rattle.site_types.specs.declared.site.Site.{Site}
use Rattle.site_types.specs.Bits.{has_bit}
use Rattle.site_types.specs.Valid.{IsPanel}
use Rattle.marker_table.specs.declared.facts.Facts.{Facts as Masks}
use Rattle.marker_table.specs.Equations.{zone_bit}
use Rattle.panel_rules.specs.Markers.{Facts}

-- a mask has the bit of a panel of the site
abbrev pub is_panel_told : Site → ℕ → ℕ → Bool
is_panel_told site mask panel = (nat_le 1 panel && nat_le panel site.panels) && has_bit mask (panel - 1)

-- the facts that the bits of masks by panel are
abbrev pub facts_told : Site → Masks → Facts
facts_told site masks =
    record {
      released = λ zone. zone_bit masks.zones (slice_get site.zones zone);
      by_hand = λ zone. zone_bit masks.manual (slice_get site.zones zone);
      faulty = is_panel_told site masks.faults;
    }

-- masks have the zones of a site of which something holds, and no other of its zones
abbrev pub TellZones : Site → (ℕ → Type 0) → List ℕ → Type 0
TellZones site Holds masks = (zone : ℕ) → zone < length site.zones
    → (zone_bit masks (slice_get site.zones zone) ≡ true) ↔ Holds zone

-- all that may be true of zones, of their manual call points and of the faults of panels is told, and nothing else
pub record TellAll (site : Site) (Released ByHand Faulty : ℕ → Type 0) (masks : Masks) : Type 0 where
  pub released : TellZones site Released masks.zones
  pub by_hand : TellZones site ByHand masks.manual
  pub faults : (panel : ℕ) → IsPanel site panel → (has_bit masks.faults (panel - 1) ≡ true) ↔ Faulty panel
