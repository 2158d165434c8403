-- How a change turns a face.
use Rattle.std.specs.Prelude.{◌-◌, ◌≤◌, ℕ, Bool, not, List, slice_index, slice_set}
use Rattle.std.specs.Int.{w8, w32}
use Rattle.site_types.specs.Bits.{with_bit, with_point}
use Rattle.face_text.specs.declared.face.Face.{Face}
use Rattle.face_text.specs.declared.group.Group.{Group}
use Rattle.face_text.specs.declared.group.Group.TheVariants.{Zones, Firsts, Missing, Broken, Shorted, Supplies}
use Rattle.face_text.specs.declared.group.Group.TheVariants.{Silent, Links, Unconfirmed, Outputs, Confirmed}
use Rattle.face_text.specs.declared.group.Group.TheVariants.{PointsOff, ZonesOff, OutputsOff, Tests}
use Rattle.face_text.specs.Slots.{HasPlace, Slot, Thing, Delays, Sounding, Count, last_of}
use Rattle.face_reading.specs.declared.change.Change.{Change}
use Rattle.face_reading.specs.declared.change.Change.TheVariants.{Thing as ThingChange, Delays as DelaysChange}
use Rattle.face_reading.specs.declared.change.Change.TheVariants.{Buzzer as BuzzerChange, Counter as CounterChange}

-- the masks of panels with one bit set or cleared
abbrev pub with_bit_of_panel : List ℕ → ℕ → ℕ → Bool → List ℕ
with_bit_of_panel masks panel number on =
    slice_set masks (panel - 1) (with_bit w32 (slice_index masks (panel - 1)) (number - 1) on)

-- the face that shows the thing of a group with a number, or doesn't, and all else as before
abbrev pub with_thing : Face → Group → ℕ → Bool → Face
with_thing face (Zones panel) number on = record face { zones = with_bit_of_panel face.zones panel number on }
with_thing face (Firsts panel) number on =
    record face { firsts = with_bit_of_panel face.firsts panel number on }
with_thing face (Missing line) number on =
    record face { faults = record face.faults { missing = with_point face.faults.missing line number on } }
with_thing face Broken number on =
    record face { faults = record face.faults { broken = with_bit w8 face.faults.broken (number - 1) on } }
with_thing face Shorted number on =
    record face { faults = record face.faults { shorted = with_bit w8 face.faults.shorted (number - 1) on } }
with_thing face Supplies number on =
    record face { faults = record face.faults { supply = with_bit w8 face.faults.supply (number - 1) on } }
with_thing face Silent number on =
    record face { faults = record face.faults { silent = with_bit w8 face.faults.silent (number - 1) on } }
with_thing face Links number on =
    record face { faults = record face.faults { links = with_bit w8 face.faults.links (number - 1) on } }
with_thing face Unconfirmed number on =
    record face {
      faults =
          record face.faults { unconfirmed = with_bit w32 face.faults.unconfirmed (number - 1) on };
    }
with_thing face Outputs number on = record face { outputs = with_bit w32 face.outputs (number - 1) on }
with_thing face Confirmed number on = record face { confirmed = with_bit w32 face.confirmed (number - 1) on }
with_thing face (PointsOff line) number on =
    record face { points_off = with_point face.points_off line number on }
with_thing face ZonesOff number on = record face { zones_off = with_bit w32 face.zones_off (number - 1) on }
with_thing face OutputsOff number on =
    record face { outputs_off = with_bit w32 face.outputs_off (number - 1) on }
with_thing face Tests number on = record face { test = with_bit w32 face.test (number - 1) on }

-- the face after a change
abbrev pub face_told : Face → Change → Face
face_told face (ThingChange group number on) = with_thing face group number on
face_told face (DelaysChange on) = record face { delays_off = not on }
face_told face (BuzzerChange sound) = record face { buzzer = sound }
face_told face (CounterChange count) = record face { counter = count }

-- a face has a place for a slot
abbrev pub IsPlaced : Slot → Type 0
IsPlaced (Thing group number) = HasPlace group × (1 ≤ number) × (number ≤ last_of group)
IsPlaced Delays = Unit {0}
IsPlaced Sounding = Unit {0}
IsPlaced Count = Unit {0}
