-- Faces of a panel that are equal by the slots of its page.
use Rattle.std.proofs.Common.{◌≡◌, ◌≤◌, ◌<◌, ◌+◌, ◌&&◌, ℕ, Bool, true, false, refl, sym, ◌∙◌, ap, arith, if◌then◌else◌, [], ◌∷◌, map}
use Rattle.std.specs.List.{range_with_len}
use Rattle.site_types.specs.declared.buzzer.Buzzer.{Buzzer}
use Rattle.site_types.specs.declared.buzzer.Buzzer.TheVariants.{Off, Fault, Fire}
use Rattle.site_types.specs.declared.site.Site.{Site}
use Rattle.site_types.proofs.Masks.{mask_same}
use Rattle.face_text.specs.declared.face.Face.{Face}
use Rattle.face_text.specs.declared.group.Group.{Group}
use Rattle.face_text.specs.declared.group.Group.TheVariants.{Zones, Firsts, Missing, Broken, Shorted, Supplies, Silent, Links, Unconfirmed, Outputs, Confirmed, PointsOff, ZonesOff, OutputsOff, Tests}
use Rattle.face_text.specs.Slots.{HasPlace, Slot, Thing, Delays, Sounding, Count, last_of, number_of_buzzer, number_of_truth, shows, value_in}
use Rattle.face_text.specs.Timelines.{kept_of, kept_points, of_site}
use Rattle.face_text.proofs.EqualFaces.{faces_from, faults_from, points_from}
use Rattle.face_reading.proofs.FaceTelling.{AreTheirSlots, IsSlotOf}
use Rattle.face_reading.proofs.FaceForm.{named}
use Rattle.face_reading.proofs.KeptMasks.{same_by_number}

and_same : (b x y : Bool) → (b ≡ true → x ≡ y) → (b && x) ≡ (b && y)
and_same true x y same = same refl
and_same false x y same = refl

pub truth_from : (x y : Bool) → number_of_truth x ≡ number_of_truth y → x ≡ y
truth_from true true e = refl
truth_from false false e = refl
truth_from true false e = absurd (omega (arith, e))
truth_from false true e = absurd (omega (arith, e))

delays_from : (x y : Bool) → ◌≡◌ {A = ℕ} (if x then 0 else 1) (if y then 0 else 1) → x ≡ y
delays_from true true e = refl
delays_from false false e = refl
delays_from true false e = absurd (omega (arith, e))
delays_from false true e = absurd (omega (arith, e))

sound_from : (x y : Buzzer) → number_of_buzzer x ≡ number_of_buzzer y → x ≡ y
sound_from Off Off e = refl
sound_from Fault Fault e = refl
sound_from Fire Fire e = refl
sound_from Off Fault e = absurd (omega (arith, e))
sound_from Off Fire e = absurd (omega (arith, e))
sound_from Fault Off e = absurd (omega (arith, e))
sound_from Fault Fire e = absurd (omega (arith, e))
sound_from Fire Off e = absurd (omega (arith, e))
sound_from Fire Fault e = absurd (omega (arith, e))

-- of two faces of a panel, that show the same in each slot of its page
module _ (site : Site) (panel : ℕ) (one other : Face) (here : one.panel ≡ panel) (there : other.panel ≡ panel) (same : (slot : Slot)
    → IsSlotOf site panel slot → value_in one slot ≡ value_in other slot) where
  kept_same : (group : Group) (first count : ℕ) → HasPlace group → 1 ≤ first → first + count ≤ 1 + last_of group
      → kept_of site one group first count ≡ kept_of site other group first count
  kept_same group first count place low high =
      mask_same count (λ k. named site one.panel group (first + k) && shows one group (first + k)) (λ k. named site other.panel group (first + k)
      && shows other group (first + k)) each
    where
      shown : (k : ℕ) → k < count → named site panel group (first + k) ≡ true → shows one group (first + k) ≡ shows other group (first + k)
      shown k small is =
          truth_from (shows one group (first + k)) (shows other group (first + k))
          (same (Thing group (first + k)) (place, omega (arith, low), omega (arith, small, high), is))

      each : (k : ℕ) → k < count
          → (named site one.panel group (first + k) && shows one group (first + k))
          ≡ (named site other.panel group (first + k) && shows other group (first + k))
      each k small =
          ap (λ p. named site p group (first + k) && shows one group (first + k)) here ∙ and_same (named site panel group (first + k))
          (shows one group (first + k)) (shows other group (first + k)) (shown k small)
          ∙ ap (λ p. named site p group (first + k) && shows other group (first + k)) (sym there)

  points_same : (group : ℕ → Group) → ((line : ℕ) → 1 ≤ line → line ≤ 4 → HasPlace (group line) × (last_of (group line) ≡ 192))
      → kept_points site one group ≡ kept_points site other group
  points_same group places =
      points_from (kept_points site one group) (kept_points site other group)
      (same_by_number (λ line. kept_of site one (group line) 1 96 ∷ kept_of site one (group line) 97 96 ∷ [])
      (λ line. kept_of site other (group line) 1 96 ∷ kept_of site other (group line) 97 96 ∷ []) 1 4 (λ line low high.
      let place = places line low (omega (arith, high)) in
      let last = place.1 in
      ap (λ x. x ∷ kept_of site one (group line) 97 96 ∷ []) (kept_same (group line) 1 96 place.0 (omega arith) (omega (arith, last)))
      ∙ ap (λ x. kept_of site other (group line) 1 96 ∷ x ∷ []) (kept_same (group line) 97 96 place.0 (omega arith) (omega (arith, last)))))

  zones_same : (group : ℕ → Group) → ((number : ℕ) → 1 ≤ number → number ≤ 8 → HasPlace (group number) × (last_of (group number) ≡ 32)) →
      map (λ number. kept_of site one (group number) 1 32) (range_with_len 1 8) ≡ map (λ number. kept_of site other (group number) 1 32)
      (range_with_len 1 8)
  zones_same group places =
      same_by_number (λ number. kept_of site one (group number) 1 32) (λ number. kept_of site other (group number) 1 32) 1 8 (λ number low high.
      let place = places number low (omega (arith, high)) in
      let last = place.1 in kept_same (group number) 1 32 place.0 (omega arith) (omega (arith, last)))

  pub kept_sames : of_site site one ≡ of_site site other
  kept_sames =
      let a = of_site site one in
      let b = of_site site other in
      faces_from a b (here ∙ sym there) (zones_same Zones (λ number low high. ((low, high), refl)))
      (zones_same Firsts (λ number low high. ((low, high), refl)))
      (faults_from a.faults b.faults (points_same Missing (λ line low high. ((low, high), refl)))
      (kept_same Broken 1 4 tt (omega arith) (omega arith)) (kept_same Shorted 1 4 tt (omega arith) (omega arith))
      (kept_same Supplies 1 4 tt (omega arith) (omega arith)) (kept_same Silent 1 8 tt (omega arith) (omega arith))
      (kept_same Links 1 8 tt (omega arith) (omega arith)) (kept_same Unconfirmed 1 32 tt (omega arith) (omega arith)))
      (kept_same Outputs 1 32 tt (omega arith) (omega arith)) (kept_same Confirmed 1 32 tt (omega arith) (omega arith))
      (points_same PointsOff (λ line low high. ((low, high), refl)))
      (kept_same ZonesOff 1 32 tt (omega arith) (omega arith)) (kept_same OutputsOff 1 32 tt (omega arith) (omega arith))
      (kept_same Tests 1 32 tt (omega arith) (omega arith))
      (delays_from one.delays_off other.delays_off (same Delays tt)) (sound_from one.buzzer other.buzzer (same Sounding tt)) (same Count tt)

pub are_their_slots : AreTheirSlots
are_their_slots site panel one other form form' same =
    form.of_the_site ∙ kept_sames site panel one other form.panel_is form'.panel_is same ∙ sym form'.of_the_site
