-- Flags for the settings that block points.
use Rattle.std.specs.Prelude.{◌≡◌, ℕ, ◌<◌, Bool, false, List, length, slice_index_or}
use Rattle.site_types.specs.Done.{Setting, PointOff as PointOffOf, ZoneOff as ZoneOffOf, InTest as InTestOf}
use Rattle.blocked_points.specs.declared.block.Block.{Block}
use Rattle.blocked_points.specs.declared.block.Block.TheVariants.{PointOff, ZoneOff, InTest}

-- the setting of a kind at a place
abbrev pub block_setting : Block → ℕ → Setting
block_setting PointOff place = PointOffOf place
block_setting ZoneOff place = ZoneOffOf place
block_setting InTest place = InTestOf place

-- a list has so many flags, and at each place the flag is the value for that place
pub record AreBlockFlags (count : ℕ) (value : ℕ → Bool) (flags : List Bool) : Type 0 where
  pub size : length flags ≡ count
  pub each : (place : ℕ) → place < count → slice_index_or flags place false ≡ value place
