-- What a face shows after a change.
use Rattle.std.proofs.Common.{◌≡◌, ◌≢◌, ◌≤◌, ◌-◌, ℕ, Bool, true, false, [], ◌∷◌, length, get_or, refl, ◌∙◌, ap, arith, if◌then◌else◌}
use Rattle.std.specs.Prelude.{not}
use Rattle.std.specs.Int.{w8, w32}
use Rattle.std.proofs.lemmas.List.FromFn.{get_or-map-range_with_len}
use Rattle.site_types.specs.declared.buzzer.Buzzer.{Buzzer}
use Rattle.site_types.specs.declared.point_set.PointSet.{PointSet}
use Rattle.site_types.specs.declared.site.Site.{Site}
use Rattle.site_types.proofs.ChangedBits.{number-same, number-other, set-same, set-other}
use Rattle.site_types.proofs.Masks.{with_bit-same, with_bit-other}
use Rattle.face_text.specs.declared.face.Face.{Face}
use Rattle.face_text.specs.declared.group.Group.{Group}
use Rattle.face_text.specs.declared.group.Group.TheVariants.{Zones, Firsts, Missing, Broken, Shorted, Supplies, Silent, Links, Unconfirmed, Outputs, Confirmed, PointsOff, ZonesOff, OutputsOff, Tests}
use Rattle.face_text.specs.Slots.{HasPlace, Slot, Thing, Delays, Sounding, Count, last_of, number_of_buzzer, number_of_truth, shows, value_in}
use Rattle.face_text.specs.Timelines.{IsFaceOf, kept_of, kept_points, of_site}
use Rattle.face_reading.specs.declared.change.Change.{Change}
use Rattle.face_reading.specs.declared.change.Change.TheVariants.{Thing as ThingChange, Delays as DelaysChange, Buzzer as BuzzerChange, Counter as CounterChange}
use Rattle.face_reading.specs.Entries.{IsChange, slot_of, value_of}
use Rattle.face_reading.specs.Telling.{IsPlaced, face_told, with_thing}
use Rattle.face_reading.proofs.FaceTelling.{IsSlotOf, TellsThisAlone}

-- a set of points has four loops of two numbers each
pub record HasHalves (set : PointSet) : Type 0 where
  pub loops : length set.loops ≡ 4
  pub halves : (line : ℕ) → 1 ≤ line → line ≤ 4 → length (get_or set.loops (line - 1) []) ≡ 2

-- the masks of a face are as many as it has places for
pub record HasSizes (face : Face) : Type 0 where
  pub zones : length face.zones ≡ 8
  pub firsts : length face.firsts ≡ 8
  pub missing : HasHalves face.faults.missing
  pub points_off : HasHalves face.points_off

halves_kept : (site : Site) (face : Face) (group : ℕ → Group) → HasHalves (kept_points site face group)
halves_kept site face group =
    record {
      loops = refl;
      halves =
          λ line low high.
          ap length (get_or-map-range_with_len (λ l. kept_of site face (group l) 1 96 ∷ kept_of site face (group l) 97 96 ∷ []) 1 4 (line - 1) line []
          (omega (arith, low, high)) (omega (arith, low)));
    }

sizes_kept : (site : Site) (face : Face) → HasSizes (of_site site face)
sizes_kept site face = record { zones = refl; firsts = refl; missing = halves_kept site face Missing; points_off = halves_kept site face PointsOff }

pub sizes_of : (site : Site) (panel : ℕ) (face : Face) → IsFaceOf site panel face → HasSizes face
sizes_of site panel face form = rw form.of_the_site (sizes_kept site face)

-- ---- things

pub shown_this : (face : Face) (group : Group) (number : ℕ) (on : Bool) → HasSizes face → HasPlace group → 1 ≤ number → number ≤ last_of group
    → shows (with_thing face group number on) group number ≡ on
shown_this face (Zones panel) number on sizes place low high = number-same face.zones panel number on sizes.zones place (low, high)
shown_this face (Firsts panel) number on sizes place low high = number-same face.firsts panel number on sizes.firsts place (low, high)
shown_this face (Missing line) number on sizes place low high =
    set-same face.faults.missing line number on sizes.missing.loops (sizes.missing.halves line place.0 place.1) (place.0, place.1, low, high)
shown_this face Broken number on sizes place low high = with_bit-same w8 face.faults.broken (number - 1) on (omega (arith, low, high))
shown_this face Shorted number on sizes place low high = with_bit-same w8 face.faults.shorted (number - 1) on (omega (arith, low, high))
shown_this face Supplies number on sizes place low high = with_bit-same w8 face.faults.supply (number - 1) on (omega (arith, low, high))
shown_this face Silent number on sizes place low high = with_bit-same w8 face.faults.silent (number - 1) on (omega (arith, low, high))
shown_this face Links number on sizes place low high = with_bit-same w8 face.faults.links (number - 1) on (omega (arith, low, high))
shown_this face Unconfirmed number on sizes place low high = with_bit-same w32 face.faults.unconfirmed (number - 1) on (omega (arith, low, high))
shown_this face Outputs number on sizes place low high = with_bit-same w32 face.outputs (number - 1) on (omega (arith, low, high))
shown_this face Confirmed number on sizes place low high = with_bit-same w32 face.confirmed (number - 1) on (omega (arith, low, high))
shown_this face (PointsOff line) number on sizes place low high =
    set-same face.points_off line number on sizes.points_off.loops (sizes.points_off.halves line place.0 place.1) (place.0, place.1, low, high)
shown_this face ZonesOff number on sizes place low high = with_bit-same w32 face.zones_off (number - 1) on (omega (arith, low, high))
shown_this face OutputsOff number on sizes place low high = with_bit-same w32 face.outputs_off (number - 1) on (omega (arith, low, high))
shown_this face Tests number on sizes place low high = with_bit-same w32 face.test (number - 1) on (omega (arith, low, high))

-- two numbers from 1 on are the same where those before them are
apart_before : (m n : ℕ) → 1 ≤ m → 1 ≤ n → m ≢ n → m - 1 ≢ n - 1
apart_before m n lm ln apart = λ h. apart (omega (arith, lm, ln, h))

pub shown_other : (face : Face) (group : Group) (number : ℕ) (on : Bool) → HasSizes face → HasPlace group → 1 ≤ number → number ≤ last_of group →
    (other : Group) (n : ℕ) → HasPlace other → 1 ≤ n → n ≤ last_of other → (other ≡ group → n ≡ number → ⊥)
    → shows (with_thing face group number on) other n ≡ shows face other n
shown_other face (Zones panel) number on sizes place low high (Zones other) n there low' high' apart =
    number-other face.zones panel number on sizes.zones place (low, high) other n there (low', high') (λ same. apart (ap Zones same))
shown_other face (Zones panel) number on sizes place low high _ n there low' high' apart = refl
shown_other face (Firsts panel) number on sizes place low high (Firsts other) n there low' high' apart =
    number-other face.firsts panel number on sizes.firsts place (low, high) other n there (low', high') (λ same. apart (ap Firsts same))
shown_other face (Firsts panel) number on sizes place low high _ n there low' high' apart = refl
shown_other face (Missing line) number on sizes place low high (Missing other) n there low' high' apart =
    set-other face.faults.missing line number on sizes.missing.loops (sizes.missing.halves line place.0 place.1) (place.0, place.1, low, high) other n
    (there.0, there.1, low', high') (λ same. apart (ap Missing same))
shown_other face (Missing line) number on sizes place low high _ n there low' high' apart = refl
shown_other face Broken number on sizes place low high Broken n there low' high' apart =
    with_bit-other w8 face.faults.broken (number - 1) on (omega (arith, low, high)) (n - 1) (omega (arith, low', high'))
    (apart_before n number low' low (apart refl))
shown_other face Broken number on sizes place low high _ n there low' high' apart = refl
shown_other face Shorted number on sizes place low high Shorted n there low' high' apart =
    with_bit-other w8 face.faults.shorted (number - 1) on (omega (arith, low, high)) (n - 1) (omega (arith, low', high'))
    (apart_before n number low' low (apart refl))
shown_other face Shorted number on sizes place low high _ n there low' high' apart = refl
shown_other face Supplies number on sizes place low high Supplies n there low' high' apart =
    with_bit-other w8 face.faults.supply (number - 1) on (omega (arith, low, high)) (n - 1) (omega (arith, low', high'))
    (apart_before n number low' low (apart refl))
shown_other face Supplies number on sizes place low high _ n there low' high' apart = refl
shown_other face Silent number on sizes place low high Silent n there low' high' apart =
    with_bit-other w8 face.faults.silent (number - 1) on (omega (arith, low, high)) (n - 1) (omega (arith, low', high'))
    (apart_before n number low' low (apart refl))
shown_other face Silent number on sizes place low high _ n there low' high' apart = refl
shown_other face Links number on sizes place low high Links n there low' high' apart =
    with_bit-other w8 face.faults.links (number - 1) on (omega (arith, low, high)) (n - 1) (omega (arith, low', high'))
    (apart_before n number low' low (apart refl))
shown_other face Links number on sizes place low high _ n there low' high' apart = refl
shown_other face Unconfirmed number on sizes place low high Unconfirmed n there low' high' apart =
    with_bit-other w32 face.faults.unconfirmed (number - 1) on (omega (arith, low, high)) (n - 1) (omega (arith, low', high'))
    (apart_before n number low' low (apart refl))
shown_other face Unconfirmed number on sizes place low high _ n there low' high' apart = refl
shown_other face Outputs number on sizes place low high Outputs n there low' high' apart =
    with_bit-other w32 face.outputs (number - 1) on (omega (arith, low, high)) (n - 1) (omega (arith, low', high'))
    (apart_before n number low' low (apart refl))
shown_other face Outputs number on sizes place low high _ n there low' high' apart = refl
shown_other face Confirmed number on sizes place low high Confirmed n there low' high' apart =
    with_bit-other w32 face.confirmed (number - 1) on (omega (arith, low, high)) (n - 1) (omega (arith, low', high'))
    (apart_before n number low' low (apart refl))
shown_other face Confirmed number on sizes place low high _ n there low' high' apart = refl
shown_other face (PointsOff line) number on sizes place low high (PointsOff other) n there low' high' apart =
    set-other face.points_off line number on sizes.points_off.loops (sizes.points_off.halves line place.0 place.1) (place.0, place.1, low, high) other
    n (there.0, there.1, low', high') (λ same. apart (ap PointsOff same))
shown_other face (PointsOff line) number on sizes place low high _ n there low' high' apart = refl
shown_other face ZonesOff number on sizes place low high ZonesOff n there low' high' apart =
    with_bit-other w32 face.zones_off (number - 1) on (omega (arith, low, high)) (n - 1) (omega (arith, low', high'))
    (apart_before n number low' low (apart refl))
shown_other face ZonesOff number on sizes place low high _ n there low' high' apart = refl
shown_other face OutputsOff number on sizes place low high OutputsOff n there low' high' apart =
    with_bit-other w32 face.outputs_off (number - 1) on (omega (arith, low, high)) (n - 1) (omega (arith, low', high'))
    (apart_before n number low' low (apart refl))
shown_other face OutputsOff number on sizes place low high _ n there low' high' apart = refl
shown_other face Tests number on sizes place low high Tests n there low' high' apart =
    with_bit-other w32 face.test (number - 1) on (omega (arith, low, high)) (n - 1) (omega (arith, low', high'))
    (apart_before n number low' low (apart refl))
shown_other face Tests number on sizes place low high _ n there low' high' apart = refl

-- ---- all else

-- what is told of a thing leaves the panel, the delays, the buzzer and the counter as they are
pub with_thing_keeps : (face : Face) (group : Group) (number : ℕ) (on : Bool) →
    ((with_thing face group number on).panel ≡ face.panel) × ((with_thing face group number on).delays_off ≡ face.delays_off)
    × ((with_thing face group number on).buzzer ≡ face.buzzer) × ((with_thing face group number on).counter ≡ face.counter)
with_thing_keeps face (Zones panel) number on = (refl, refl, refl, refl)
with_thing_keeps face (Firsts panel) number on = (refl, refl, refl, refl)
with_thing_keeps face (Missing line) number on = (refl, refl, refl, refl)
with_thing_keeps face Broken number on = (refl, refl, refl, refl)
with_thing_keeps face Shorted number on = (refl, refl, refl, refl)
with_thing_keeps face Supplies number on = (refl, refl, refl, refl)
with_thing_keeps face Silent number on = (refl, refl, refl, refl)
with_thing_keeps face Links number on = (refl, refl, refl, refl)
with_thing_keeps face Unconfirmed number on = (refl, refl, refl, refl)
with_thing_keeps face Outputs number on = (refl, refl, refl, refl)
with_thing_keeps face Confirmed number on = (refl, refl, refl, refl)
with_thing_keeps face (PointsOff line) number on = (refl, refl, refl, refl)
with_thing_keeps face ZonesOff number on = (refl, refl, refl, refl)
with_thing_keeps face OutputsOff number on = (refl, refl, refl, refl)
with_thing_keeps face Tests number on = (refl, refl, refl, refl)

-- what is shown of things hangs on nothing else
pub shows_with : (face : Face) (delays_off : Bool) (buzzer : Buzzer) (counter : ℕ) (group : Group) (number : ℕ) →
    shows (record face { delays_off = delays_off; buzzer = buzzer; counter = counter }) group number ≡ shows face group number
shows_with face delays_off buzzer counter (Zones panel) number = refl
shows_with face delays_off buzzer counter (Firsts panel) number = refl
shows_with face delays_off buzzer counter (Missing line) number = refl
shows_with face delays_off buzzer counter Broken number = refl
shows_with face delays_off buzzer counter Shorted number = refl
shows_with face delays_off buzzer counter Supplies number = refl
shows_with face delays_off buzzer counter Silent number = refl
shows_with face delays_off buzzer counter Links number = refl
shows_with face delays_off buzzer counter Unconfirmed number = refl
shows_with face delays_off buzzer counter Outputs number = refl
shows_with face delays_off buzzer counter Confirmed number = refl
shows_with face delays_off buzzer counter (PointsOff line) number = refl
shows_with face delays_off buzzer counter ZonesOff number = refl
shows_with face delays_off buzzer counter OutputsOff number = refl
shows_with face delays_off buzzer counter Tests number = refl

told_delays : (on : Bool) → (if not on then 0 else 1) ≡ number_of_truth on
told_delays true = refl
told_delays false = refl

-- ---- slots

pub slot_placed : (site : Site) (panel : ℕ) (slot : Slot) → IsSlotOf site panel slot → IsPlaced slot
slot_placed site panel (Thing group number) is = (is.0, is.1, is.2)
slot_placed site panel Delays is = tt
slot_placed site panel Sounding is = tt
slot_placed site panel Count is = tt

pub change_placed : (site : Site) (panel : ℕ) (change : Change) → IsChange site panel change → IsPlaced (slot_of change)
change_placed site panel (ThingChange group number on) is = (is.0, is.1, is.2)
change_placed site panel (DelaysChange on) is = tt
change_placed site panel (BuzzerChange sound) is = tt
change_placed site panel (CounterChange count) is = tt

pub told_this : (face : Face) (change : Change) → HasSizes face → IsPlaced (slot_of change)
    → value_in (face_told face change) (slot_of change) ≡ value_of change
told_this face (ThingChange group number on) sizes is = ap number_of_truth (shown_this face group number on sizes is.0 is.1 is.2)
told_this face (DelaysChange on) sizes is = told_delays on
told_this face (BuzzerChange sound) sizes is = refl
told_this face (CounterChange count) sizes is = refl

pub told_other : (face : Face) (change : Change) (slot : Slot) → HasSizes face → IsPlaced (slot_of change) → IsPlaced slot → slot ≢ slot_of change
    → value_in (face_told face change) slot ≡ value_in face slot
told_other face (ThingChange group number on) (Thing other n) sizes is there apart =
    ap number_of_truth
    (shown_other face group number on sizes is.0 is.1 is.2 other n there.0 there.1 there.2
    (λ e f. apart (ap (λ g. Thing g n) e ∙ ap (Thing group) f)))
told_other face (ThingChange group number on) Delays sizes is there apart =
    ap (λ (b : Bool). if b then 0 else 1) ((with_thing_keeps face group number on).1)
told_other face (ThingChange group number on) Sounding sizes is there apart = ap number_of_buzzer ((with_thing_keeps face group number on).2)
told_other face (ThingChange group number on) Count sizes is there apart = (with_thing_keeps face group number on).3
told_other face (DelaysChange on) (Thing other n) sizes is there apart =
    ap number_of_truth (shows_with face (not on) face.buzzer face.counter other n)
told_other face (DelaysChange on) Delays sizes is there apart = absurd (apart refl)
told_other face (DelaysChange on) Sounding sizes is there apart = refl
told_other face (DelaysChange on) Count sizes is there apart = refl
told_other face (BuzzerChange sound) (Thing other n) sizes is there apart =
    ap number_of_truth (shows_with face face.delays_off sound face.counter other n)
told_other face (BuzzerChange sound) Delays sizes is there apart = refl
told_other face (BuzzerChange sound) Sounding sizes is there apart = absurd (apart refl)
told_other face (BuzzerChange sound) Count sizes is there apart = refl
told_other face (CounterChange count) (Thing other n) sizes is there apart =
    ap number_of_truth (shows_with face face.delays_off face.buzzer count other n)
told_other face (CounterChange count) Delays sizes is there apart = refl
told_other face (CounterChange count) Sounding sizes is there apart = refl
told_other face (CounterChange count) Count sizes is there apart = absurd (apart refl)

pub tells_this_alone : TellsThisAlone
tells_this_alone =
    record {
      this = λ site panel face change form is. told_this face change (sizes_of site panel face form) (change_placed site panel change is);
      others =
          λ site panel face change slot form is there apart. told_other face change slot (sizes_of site panel face form)
          (change_placed site panel change is) (slot_placed site panel slot there) apart;
    }
