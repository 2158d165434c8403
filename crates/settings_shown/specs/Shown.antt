-- The settings that a panel shows, as masks, where settings are kept.
use Rattle.std.specs.Prelude.{◌≡◌, ◌-◌, ℕ, Bool, true, List, Some, is_some, slice_index, slice_index_or}
use Rattle.site_types.specs.declared.change.Change.{Change}
use Rattle.site_types.specs.declared.operation.Operation.{Operation}
use Rattle.site_types.specs.declared.retained.Retained.{Retained}
use Rattle.site_types.specs.declared.site.Site.{Site}
use Rattle.site_types.specs.Bits.{IsPlace, has_bit, has_point}
use Rattle.site_types.specs.Changes.{IsNumber, IsPanelNumber, IsSized, changed, operation_change}
use Rattle.site_types.specs.Done.{Done, Setting, PointOff, ZoneOff, OutputOff, InTest, DelaysOff, at_opening}
use Rattle.site_types.specs.Done.{in_force, no_points}
use Rattle.site_types.specs.Valid.{IsValid}
use Rattle.coincidence_rules.specs.Places.{numbered, zones_where}
use Rattle.operation_desk.specs.Replies.{AreInForce}
use Rattle.panel_conditions.specs.Points.{addressed, points_where}
use Rattle.panel_rules.specs.Outputs.{output_numbered, outputs_where}

-- what settings have of a panel is what a test of settings says: each mask is that of the points, zones or
-- outputs of the panel whose setting passes, and its delays are off where that setting passes
pub record HasMasks (site : Site) (test : Setting → Bool) (panel : ℕ) (settings : Retained) : Type 0 where
  pub points : slice_index_or settings.points (panel - 1) no_points
      ≡ points_where site panel (λ point. test (PointOff point))
  pub zones : slice_index settings.zones (panel - 1) ≡ zones_where site panel (λ zone. test (ZoneOff zone))
  pub outputs : slice_index settings.outputs (panel - 1)
      ≡ outputs_where site panel (λ output. test (OutputOff output))
  pub tests : slice_index settings.tests (panel - 1) ≡ zones_where site panel (λ zone. test (InTest zone))
  pub delays : has_bit settings.delays_off (panel - 1) ≡ test (DelaysOff panel)

-- settings have no strange bit, of a point, a zone or an output that the site hasn't: what they have of each of the
-- eight panels is what they say of the settings of the site's things. The eight bits of delays are of panels,
-- which may be more than the site has; a panel shows its own alone.
abbrev pub HasNoStrangeBits : Site → Retained → Type 0
HasNoStrangeBits site settings = (panel : ℕ) → IsPanelNumber panel
    → HasMasks site (at_opening site settings) panel settings

-- what settings have of a panel is what is in force in a tick
abbrev pub ShowsSettings : Site → Retained → ℕ → List Done → ℕ → Retained → Type 0
ShowsSettings site kept tick done panel settings =
    HasMasks site (λ setting. in_force site kept setting tick done) panel settings

-- settings that are in force, and have no strange bit, show what is in force
abbrev pub InForceAreShown : Type 0
InForceAreShown = (site : Site) (kept : Retained) (tick : ℕ) (done : List Done) (panel : ℕ) (settings : Retained)
    → IsPanelNumber panel → HasNoStrangeBits site settings → AreInForce site kept tick done settings
    → ShowsSettings site kept tick done panel settings

-- the change that an operation makes brings no strange bit
abbrev pub NoStrangeBitsCome : Type 0
NoStrangeBitsCome = (site : Site) (settings : Retained) (panel : ℕ) (operation : Operation) (change : Change)
    → IsValid site → IsSized settings → operation_change site panel operation ≡ Some change
    → HasNoStrangeBits site settings → HasNoStrangeBits site (changed change settings)

-- each bit of settings is of a point, a zone or an output that the site has, with that address or number
pub record HaveThings (site : Site) (settings : Retained) : Type 0 where
  pub points : (panel line address : ℕ) → IsPanelNumber panel → IsPlace line address
      → has_point (slice_index_or settings.points (panel - 1) no_points) line address ≡ true
      → is_some (addressed site panel line address) ≡ true
  pub zones : (panel number : ℕ) → IsPanelNumber panel → IsNumber number
      → has_bit (slice_index settings.zones (panel - 1)) (number - 1) ≡ true
      → is_some (numbered site panel number) ≡ true
  pub outputs : (panel number : ℕ) → IsPanelNumber panel → IsNumber number
      → has_bit (slice_index settings.outputs (panel - 1)) (number - 1) ≡ true
      → is_some (output_numbered site panel number) ≡ true
  pub tests : (panel number : ℕ) → IsPanelNumber panel → IsNumber number
      → has_bit (slice_index settings.tests (panel - 1)) (number - 1) ≡ true
      → is_some (numbered site panel number) ≡ true

-- where no bit of settings is strange, each has its point, zone or output
abbrev pub BitsHaveThings : Type 0
BitsHaveThings = (site : Site) (settings : Retained) → HasNoStrangeBits site settings → HaveThings site settings
