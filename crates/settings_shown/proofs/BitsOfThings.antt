-- Where no bit of settings is strange, each has its point, zone or output.
use Rattle.std.proofs.Common.{◌≡◌, ℕ, zero, suc, ◌+◌, ◌-◌, ◌*◌, ◌<◌, Bool, true, [], ◌∷◌, Option, Some, None, get_or, refl, sym, ◌∙◌, ap, arith}
use Rattle.std.specs.Prelude.{is_some}
use Rattle.site_types.specs.declared.point_set.PointSet.{PointSet}
use Rattle.site_types.specs.declared.site.Site.{Site}
use Rattle.site_types.specs.Bits.{IsPlace, bit_of, half_of, has_bit, has_point}
use Rattle.site_types.specs.Changes.{IsNumber}
use Rattle.site_types.specs.Done.{PointOff, ZoneOff, OutputOff, InTest, at_opening}
use Rattle.site_types.proofs.ChangedBits.{half_small}
use Rattle.site_types.proofs.Masks.{has_bit-mask}
use Rattle.coincidence_rules.specs.Places.{numbered, on_zone, zones_where}
use Rattle.coincidence_rules.proofs.ZoneMasks.{has_bit-zones}
use Rattle.panel_conditions.specs.Points.{addressed, addresses_where, on_point, points_where}
use Rattle.panel_conditions.proofs.PointSets.{halves}
use Rattle.panel_rules.specs.Outputs.{on_place, output_numbered, outputs_where}
use Rattle.settings_shown.specs.Shown.{BitsHaveThings}

-- what passes a test is there
zone_there : (test : ℕ → Bool) (o : Option ℕ) → on_zone test o ≡ true → is_some o ≡ true
zone_there test None h = h
zone_there test (Some zone) h = refl

output_there : (test : ℕ → Bool) (o : Option ℕ) → on_place test o ≡ true → is_some o ≡ true
output_there test None h = h
output_there test (Some output) h = refl

point_there : (test : ℕ → Bool) (o : Option ℕ) → on_point test o ≡ true → is_some o ≡ true
point_there test None h = h
point_there test (Some point) h = refl

module _ (site : Site) (panel : ℕ) (test : ℕ → Bool) where
  -- masks of zones and of outputs
  zone_of_bit : (mask number : ℕ) → mask ≡ zones_where site panel test → IsNumber number → has_bit mask (number - 1) ≡ true
      → is_some (numbered site panel number) ≡ true
  zone_of_bit mask number is place h =
      let same : number - 1 + 1 ≡ number = omega (arith, place.0) in
      zone_there test (numbered site panel number)
      (ap (λ n. on_zone test (numbered site panel n)) (sym same)
      ∙ sym (has_bit-zones site panel test (number - 1) (omega (arith, place.0, place.1)))
      ∙ ap (λ m. has_bit m (number - 1)) (sym is)
      ∙ h)

  output_bit : (k : ℕ) → k < 32 → has_bit (outputs_where site panel test) k ≡ on_place test (output_numbered site panel (k + 1))
  unfolding outputs_where
  output_bit k small = has_bit-mask 32 (λ j. on_place test (output_numbered site panel (j + 1))) k small

  output_of_bit : (mask number : ℕ) → mask ≡ outputs_where site panel test → IsNumber number → has_bit mask (number - 1) ≡ true
      → is_some (output_numbered site panel number) ≡ true
  output_of_bit mask number is place h =
      let same : number - 1 + 1 ≡ number = omega (arith, place.0) in
      output_there test (output_numbered site panel number)
      (ap (λ n. on_place test (output_numbered site panel n)) (sym same)
      ∙ sym (output_bit (number - 1) (omega (arith, place.0, place.1)))
      ∙ ap (λ m. has_bit m (number - 1)) (sym is)
      ∙ h)

  -- sets of points
  half_bit : (line past bit address : ℕ) → bit < 96 → past + bit + 1 ≡ address
      → has_bit (addresses_where site panel test line past) bit ≡ on_point test (addressed site panel line address)
  unfolding addresses_where
  half_bit line past bit address small is =
      has_bit-mask 96 (λ k. on_point test (addressed site panel line (past + k + 1))) bit small
      ∙ ap (λ a. on_point test (addressed site panel line a)) is

  line_bit : (line address half : ℕ) → half < 2 → 96 * half + bit_of address + 1 ≡ address
      → has_bit (get_or (halves site panel test line) half 0) (bit_of address) ≡ on_point test (addressed site panel line address)
  line_bit line address zero small is = half_bit line 0 (bit_of address) address (omega arith) (omega (arith, is))
  line_bit line address (suc zero) small is = half_bit line 96 (bit_of address) address (omega arith) (omega (arith, is))
  line_bit line address (suc (suc half)) small is = absurd (omega (arith, small))

  by_line : (l line address : ℕ) → l ≡ line → IsPlace line address
      → has_bit (get_or (halves site panel test l) (half_of address) 0) (bit_of address) ≡ on_point test (addressed site panel line address)
  by_line l line address is at =
      ap (λ n. has_bit (get_or (halves site panel test n) (half_of address) 0) (bit_of address)) is
      ∙ line_bit line address (half_of address) (half_small address at.3) (let first = at.2 in omega (arith, first))

  set_bit : (place line address : ℕ) → place < 4 → place + 1 ≡ line → IsPlace line address
      → has_bit
      (get_or (get_or (halves site panel test 1 ∷ halves site panel test 2 ∷ halves site panel test 3 ∷ halves site panel test 4 ∷ []) place [])
      (half_of address) 0) (bit_of address) ≡ on_point test (addressed site panel line address)
  set_bit zero line address small is at = by_line 1 line address (omega (arith, is)) at
  set_bit (suc zero) line address small is at = by_line 2 line address (omega (arith, is)) at
  set_bit (suc (suc zero)) line address small is at = by_line 3 line address (omega (arith, is)) at
  set_bit (suc (suc (suc zero))) line address small is at = by_line 4 line address (omega (arith, is)) at
  set_bit (suc (suc (suc (suc place)))) line address small is at = absurd (omega (arith, small))

  set_has : (line address : ℕ) → IsPlace line address
      → has_point (points_where site panel test) line address ≡ on_point test (addressed site panel line address)
  unfolding points_where
  set_has line address at =
      let first = at.0 in
      let last = at.1 in
      set_bit (line - 1) line address (omega (arith, first, last)) (omega (arith, first)) at

  point_of_bit : (set : PointSet) (line address : ℕ) → set ≡ points_where site panel test → IsPlace line address
      → has_point set line address ≡ true → is_some (addressed site panel line address) ≡ true
  point_of_bit set line address is at h =
      point_there test (addressed site panel line address) (sym (set_has line address at) ∙ ap (λ s. has_point s line address) (sym is) ∙ h)

pub bits_of_things : BitsHaveThings
bits_of_things site settings own = record {
  points = λ panel line address here at h.
      point_of_bit site panel (λ j. at_opening site settings (PointOff j)) _ line address (own panel here).points at h;
  zones = λ panel number here at h. zone_of_bit site panel (λ j. at_opening site settings (ZoneOff j)) _ number (own panel here).zones at h;
  outputs = λ panel number here at h. output_of_bit site panel (λ j. at_opening site settings (OutputOff j)) _ number (own panel here).outputs at h;
  tests = λ panel number here at h. zone_of_bit site panel (λ j. at_opening site settings (InTest j)) _ number (own panel here).tests at h;
}
