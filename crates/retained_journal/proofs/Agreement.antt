-- What is read at a place of one file and of another whose bytes are the same there.
use Rattle.std.proofs.Common.{◌≡◌, ◌+◌, ◌-◌, ◌*◌, ◌<◌, ◌≤◌, ℕ, zero, suc, Bool, true, false, List, map, slice_index, refl, sym, ap, ◌∙◌, subst, arith, add-zero, zero-add}
use Rattle.std.specs.List.{range_with_len}
use Rattle.byteorder.specs.Endian.{big_from, little_from}
use Rattle.site_types.specs.declared.point_set.PointSet.{PointSet}
use Rattle.retained_journal.specs.Fields.{Agrees, bytes_at, mask_at, number_at, numbers_at}
use Rattle.retained_journal.specs.Slots.{loop_at, panel_points, points_at, retained_at, slot_number}
use Rattle.retained_journal.specs.Places.{bytes_of_slot}
use Rattle.retained_journal.proofs.Lengths.{bytes_of_slot_body}
use Rattle.retained_journal.specs.Places.{zones_place, outputs_place, delays_place, counters_place, wide_points_place, tests_place, points_place}

-- a part of what agrees
pub part : (n : ℕ) (file : List ℕ) (at : ℕ) (other : List ℕ) (from : ℕ) (k m : ℕ) → Agrees n file at other from → k + m ≤ n
    → Agrees m file (at + k) other (from + k)
part n file at other from k m agrees fits = record {
  same =
      λ i less. subst (λ (j : ℕ). slice_index file j ≡ slice_index other (from + k + i)) (omega arith)
      (subst (λ (j : ℕ). slice_index file (at + (k + i)) ≡ slice_index other j) (omega arith) (agrees.same (k + i) (omega arith)));
}

pub sooner : (n : ℕ) (file : List ℕ) (at : ℕ) (other : List ℕ) (from : ℕ) (m : ℕ) → Agrees n file at other from → m ≤ n → Agrees m file at other from
sooner n file at other from m agrees fits = record { same = λ i less. agrees.same i (omega arith) }

pub turned : (n : ℕ) (file : List ℕ) (at : ℕ) (other : List ℕ) (from : ℕ) → Agrees n file at other from → Agrees n other from file at
turned n file at other from agrees = record { same = λ i less. sym (agrees.same i less) }

pub joined : (n : ℕ) (file : List ℕ) (at : ℕ) (other : List ℕ) (from : ℕ) (third : List ℕ) (last : ℕ) → Agrees n file at other from
    → Agrees n other from third last → Agrees n file at third last
joined n file at other from third last one two = record { same = λ i less. one.same i less ∙ two.same i less }

-- from the beginning of a file on
pub from_start : (n : ℕ) (file other : List ℕ) (from : ℕ) → ((i : ℕ) → i < n → slice_index file i ≡ slice_index other (from + i))
    → Agrees n file 0 other from
from_start n file other from same =
    record { same = λ i less. subst (λ (j : ℕ). slice_index file j ≡ slice_index other (from + i)) (sym (zero-add i)) (same i less) }

pub first_byte : (n : ℕ) (file : List ℕ) (at : ℕ) (other : List ℕ) (from : ℕ) → Agrees n file at other from → 0 < n
    → slice_index file at ≡ slice_index other from
first_byte n file at other from agrees some =
    subst (λ (j : ℕ). slice_index file j ≡ slice_index other from) (add-zero at)
    (subst (λ (j : ℕ). slice_index file (at + 0) ≡ slice_index other j) (add-zero from) (agrees.same 0 some))

rest : (n : ℕ) (file : List ℕ) (at : ℕ) (other : List ℕ) (from : ℕ) → Agrees (suc n) file at other from → Agrees n file (suc at) other (suc from)
rest n file at other from agrees = record {
  same =
      λ i less. subst (λ (j : ℕ). slice_index file j ≡ slice_index other (suc from + i)) (omega arith)
      (subst (λ (j : ℕ). slice_index file (at + (1 + i)) ≡ slice_index other j) (omega arith) (agrees.same (1 + i) (omega arith)));
}

big-agrees : (n : ℕ) (file : List ℕ) (at : ℕ) (other : List ℕ) (from : ℕ) → Agrees n file at other from → big_from at n file ≡ big_from from n other
big-agrees zero file at other from agrees = refl
big-agrees (suc n) file at other from agrees =
    let byte = first_byte (suc n) file at other from agrees (omega arith) in
    let more = big-agrees n file (suc at) other (suc from) (rest n file at other from agrees) in
    rw (byte, more) refl

little-agrees : (n : ℕ) (file : List ℕ) (at : ℕ) (other : List ℕ) (from : ℕ) → Agrees n file at other from
    → little_from at n file ≡ little_from from n other
little-agrees zero file at other from agrees = refl
little-agrees (suc n) file at other from agrees =
    let byte = first_byte (suc n) file at other from agrees (omega arith) in
    let more = little-agrees n file (suc at) other (suc from) (rest n file at other from agrees) in
    rw (byte, more) refl

pub number-agrees : (n : ℕ) (file : List ℕ) (at : ℕ) (other : List ℕ) (from : ℕ) → Agrees n file at other from
    → number_at n at file ≡ number_at n from other
unfolding number_at
number-agrees n file at other from agrees = big-agrees n file at other from agrees

pub mask-agrees : (n : ℕ) (file : List ℕ) (at : ℕ) (other : List ℕ) (from : ℕ) → Agrees n file at other from
    → mask_at n at file ≡ mask_at n from other
unfolding mask_at
mask-agrees n file at other from agrees = little-agrees n file at other from agrees

-- what is told from each place is the same
pub map-same : {X : Type 0} (f g : ℕ → X) (a n : ℕ) → ((i : ℕ) → a ≤ i → i < a + n → f i ≡ g i)
    → map f (range_with_len a n) ≡ map g (range_with_len a n)
map-same f g a zero same = refl
map-same f g a (suc n) same =
    let here = same a (omega arith) (omega arith) in
    let more = map-same f g (a + 1) n (λ i low high. same i (omega arith) (omega arith)) in
    cc

pub bytes-agree : (n : ℕ) (file : List ℕ) (at : ℕ) (other : List ℕ) (from : ℕ) → Agrees n file at other from
    → bytes_at n at file ≡ bytes_at n from other
unfolding bytes_at
bytes-agree n file at other from agrees =
    map-same (λ k. slice_index file (at + k)) (λ k. slice_index other (from + k)) 0 n (λ i low high. agrees.same i (omega arith))

pub numbers-agree : (file : List ℕ) (at : ℕ) (other : List ℕ) (from : ℕ) → Agrees 32 file at other from → numbers_at at file ≡ numbers_at from other
unfolding numbers_at
numbers-agree file at other from agrees =
    map-same (λ k. number_at 4 (at + 4 * k) file) (λ k. number_at 4 (from + 4 * k) other) 0 8
    (λ i low high. number-agrees 4 file (at + 4 * i) other (from + 4 * i) (part 32 file at other from (4 * i) 4 agrees (omega arith)))

abbrev the_set : List (List ℕ) → PointSet
the_set rows = record { loops = rows }

module _ (wide : Bool) (file : List ℕ) (at : ℕ) (other : List ℕ) (from : ℕ) (agrees : Agrees bytes_of_slot_body file (at + 1) other (from + 1)) where
  there : (k m : ℕ) → 1 ≤ k → k + m ≤ bytes_of_slot → Agrees m file (at + k) other (from + k)
  there k m some fits = record {
    same =
        λ i less. subst (λ (x : ℕ). slice_index file x ≡ slice_index other (from + k + i)) (omega (arith, some))
        (subst (λ (x : ℕ). slice_index file (at + 1 + (k - 1 + i)) ≡ slice_index other x) (omega (arith, some))
        (agrees.same (k - 1 + i) (omega (arith, some, fits, less))));
  }

  further : (k j m : ℕ) → 1 ≤ k → k + j + m ≤ bytes_of_slot → Agrees m file (at + k + j) other (from + k + j)
  further k j m some fits = part (j + m) file (at + k) other (from + k) j m (there k (j + m) some (omega arith)) (omega arith)

  loop-agrees : (b : Bool) (which : ℕ) → which < 32 → loop_at b at which file ≡ loop_at b from which other
  loop-agrees true which less =
      let low = mask-agrees 12 file (at + points_place + 12 * which) other (from + points_place + 12 * which) (further 9 (12 * which) 12 (omega arith) (omega arith)) in
      let high = mask-agrees 12 file (at + wide_points_place + 12 * which) other (from + wide_points_place + 12 * which) (further wide_points_place (12 * which) 12 (omega arith) (omega arith))
      in
      rw (low, high) refl
  loop-agrees false which less =
      let low = mask-agrees 12 file (at + points_place + 12 * which) other (from + points_place + 12 * which) (further 9 (12 * which) 12 (omega arith) (omega arith)) in
      rw low refl

  panel-agrees : (panel : ℕ) → panel < 8 → panel_points wide at panel file ≡ panel_points wide from panel other
  unfolding panel_points
  panel-agrees panel less =
      ap (λ (rows : List (List ℕ)). the_set rows)
      (map-same (λ line. loop_at wide at (4 * panel + line) file) (λ line. loop_at wide from (4 * panel + line) other) 0 4
      (λ i low high. loop-agrees wide (4 * panel + i) (omega arith)))

  points-agree : points_at wide at file ≡ points_at wide from other
  unfolding points_at
  points-agree =
      map-same (λ panel. panel_points wide at panel file) (λ panel. panel_points wide from panel other) 0 8
      (λ i low high. panel-agrees i (omega arith))

  pub retained-body : retained_at wide at file ≡ retained_at wide from other
  retained-body =
      let points = points-agree in
      let zones = numbers-agree file (at + zones_place) other (from + zones_place) (there zones_place 32 (omega arith) (omega arith)) in
      let outputs = numbers-agree file (at + outputs_place) other (from + outputs_place) (there outputs_place 32 (omega arith) (omega arith)) in
      let delays = first_byte 1 file (at + delays_place) other (from + delays_place) (there delays_place 1 (omega arith) (omega arith)) (omega arith) in
      let counters = numbers-agree file (at + counters_place) other (from + counters_place) (there counters_place 32 (omega arith) (omega arith)) in
      let tests = numbers-agree file (at + tests_place) other (from + tests_place) (there tests_place 32 (omega arith) (omega arith)) in
      rw (points, zones, outputs, delays, counters, tests) refl

body_of : (file : List ℕ) (at : ℕ) (other : List ℕ) (from : ℕ) → Agrees bytes_of_slot file at other from → Agrees bytes_of_slot_body file (at + 1) other (from + 1)
body_of file at other from agrees = part bytes_of_slot file at other from 1 bytes_of_slot_body agrees (omega arith)

pub retained-agrees : (wide : Bool) (file : List ℕ) (at : ℕ) (other : List ℕ) (from : ℕ) → Agrees bytes_of_slot file at other from
    → retained_at wide at file ≡ retained_at wide from other
retained-agrees wide file at other from agrees = retained-body wide file at other from (body_of file at other from agrees)

pub slot_number-agrees : (wide : Bool) (file : List ℕ) (at : ℕ) (other : List ℕ) (from : ℕ) → Agrees bytes_of_slot file at other from
    → slot_number at file ≡ slot_number from other
slot_number-agrees wide file at other from agrees =
    number-agrees 8 file (at + 1) other (from + 1) (part bytes_of_slot file at other from 1 8 agrees (omega arith))
