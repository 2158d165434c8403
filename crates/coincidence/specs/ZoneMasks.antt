-- The zones in which the points of blocks stand, as masks, and what the alarms of a block tell of them.
use Rattle.std.specs.Prelude.{◌≡◌, ◌+◌, ◌<◌, ◌^◌, ◌==◌, ℕ, List, Some, false, if◌then◌else◌, slice_get, slice_index}
use Rattle.std.specs.Prelude.{slice_index_or, true}
use Rattle.site_types.specs.declared.point.Point.{Point}
use Rattle.site_types.specs.declared.zone.Zone.{Zone}
use Rattle.site_types.specs.Bits.{has_bit}
use Rattle.site_types.specs.Changes.{IsNumber}
use Rattle.answer_lanes.specs.declared.told.Told.{Told}
use Rattle.answer_lanes.specs.Blocks.{none_told}
use Rattle.coincidence.specs.declared.block_zones.BlockZones.{BlockZones}
use Rattle.coincidence.specs.declared.eight_zones.EightZones.{EightZones}

-- zones have numbers that zones may have
abbrev pub HaveZoneNumbers : List Zone → Type 0
HaveZoneNumbers zones = (place : ℕ) (zone : Zone) → slice_get zones place ≡ Some zone → IsNumber zone.number

-- a mask is that of the zone in which the point at a place stands
pub record IsMaskAt (points : List Point) (zones : List Zone) (place mask : ℕ) : Type 0 where
  pub fits : mask < 2 ^ 32
  pub bits : (point : Point) (zone : Zone)
      → slice_get points place ≡ Some point → slice_get zones point.zone ≡ Some zone
      → (k : ℕ) → k < 32 → has_bit mask k ≡ (if (k + 1) == zone.number then true else false)

-- of the eight points from a place on the masks are those of their zones
abbrev pub TellsZonesFrom : List Point → List Zone → ℕ → EightZones → Type 0
TellsZonesFrom points zones first found =
    (k : ℕ) → k < 8
    → IsMaskAt points zones (first + k) (if has_bit found.others k then found.other_zones else found.zones)

-- what is told of zones that are confirmed and released, and not by hand
abbrev pub told_plainly : ℕ → Told
told_plainly zones = record { counted = zones; confirmed = zones; manual = 0; released = zones }

-- the mask of the zone of the point so many places behind the first one of one of the eights of a block
abbrev pub mask_in : BlockZones → ℕ → ℕ → ℕ
mask_in block number k =
    if has_bit (slice_index block.others number) k then slice_index block.other_zones number
    else (slice_index_or block.told number none_told).counted

-- what is told of each eight is told plainly
abbrev pub ArePlainlyTold : BlockZones → Type 0
ArePlainlyTold block =
    (number : ℕ) → number < 4
    → slice_index_or block.told number none_told
    ≡ told_plainly ((slice_index_or block.told number none_told).counted)

-- it is told plainly of the zones in which the points of a block stand
pub record TellsBlockZones (points : List Point) (zones : List Zone) (block : BlockZones) : Type 0 where
  pub plain : ArePlainlyTold block
  pub masks : (number k : ℕ) → number < 4 → k < 8
      → IsMaskAt points zones (slice_index block.firsts number + k) (mask_in block number k)

-- of each of some blocks it is told plainly of the zones in which its points stand
abbrev pub TellZonesOf : List Point → List Zone → List BlockZones → Type 0
TellZonesOf points zones blocks =
    (number : ℕ) (block : BlockZones) → slice_get blocks number ≡ Some block → TellsBlockZones points zones block

-- one of some blocks is that with these first places
pub record HasBlock (blocks : List BlockZones) (firsts : List ℕ) (block : BlockZones) : Type 0 where
  pub number : ℕ
  pub is : slice_get blocks number ≡ Some block
  pub of : block.firsts ≡ firsts
