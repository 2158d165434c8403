-- The facts of a turn of Effect as masks by panel, without a bit besides.
use Rattle.std.specs.Prelude.{◌≡◌, ℕ, ◌+◌, ◌&&◌, Bool, false, nat_lt}
use Rattle.site_types.specs.declared.site.Site.{Site}
use Rattle.site_types.specs.Bits.{mask_of}
use Rattle.site_types.specs.Limits.{most_panels}
use Rattle.marker_table.specs.declared.facts.Facts.{Facts as Masks}
use Rattle.panel_rules.specs.Markers.{Facts}
use Rattle.output_calls.specs.SilenceCalls.{zone_masks}

-- no fact is true
abbrev pub no_facts : Facts
no_facts = record { released = λ zone. false; by_hand = λ zone. false; faulty = λ panel. false }

-- the panels of a site that pass a test, bit `panel - 1` each
abbrev pub panel_mask : Site → (ℕ → Bool) → ℕ
panel_mask site test = mask_of most_panels (λ k. nat_lt k site.panels && test (k + 1))

-- masks are the facts, with a bit for the zones and panels of the site alone
pub record AreMasksOf (site : Site) (facts : Facts) (masks : Masks) : Type 0 where
  pub zones : masks.zones ≡ zone_masks site facts.released
  pub manual : masks.manual ≡ zone_masks site facts.by_hand
  pub faults : masks.faults ≡ panel_mask site facts.faulty

-- the masks of what counts by hand
abbrev pub hand_masks : Masks → Masks
hand_masks masks = record { zones = masks.manual; manual = masks.manual; faults = 0 }
