-- What the front of a file tells is the same of a file and of the bytes that were read of it.
use Rattle.std.proofs.Common.{◌≡◌, ◌+◌, ◌*◌, ◌<◌, ◌≤◌, ◌==◌, ℕ, Bool, true, false, List, [], ◌∷◌, slice_index, refl, ap, ◌∙◌, subst, arith, zero-add}
use Rattle.std.specs.Prelude.{Option, Some, None, if◌then◌else◌, nat_lt}
use Rattle.site_types.specs.Limits.{greatest_count}
use Rattle.retained_journal.specs.declared.open_refusal.OpenRefusal.{OpenRefusal}
use Rattle.retained_journal.specs.Fields.{Agrees, first_in, number_at}
use Rattle.retained_journal.specs.Places.{slot_place}
use Rattle.retained_journal.specs.Places.{bytes_of_slot, front_bytes, second_slot, first_slot}
use Rattle.retained_journal.specs.Places.{counters_place}
use Rattle.retained_journal.specs.Slots.{retained_at, slot_number}
use Rattle.retained_journal.specs.Opening.{chosen_place, counter_too_great, cut_short, damaged, first_of}
use Rattle.retained_journal.specs.Opening.{front_refusal, great_counter, is_open, is_second, no_open_slot}
use Rattle.retained_journal.specs.Opening.{not_a_journal, number_too_great, other_site}
use Rattle.retained_journal.proofs.Agreement.{bytes-agree, number-agrees, retained-agrees, slot_number-agrees, sooner}
use Rattle.retained_journal.proofs.Finding.{first-same, found-within}

pub chosen_fits : (second : Bool) → slot_place second + bytes_of_slot ≤ front_bytes
chosen_fits true = omega arith
chosen_fits false = omega arith

pub six : (a b c d e f a' b' c' d' e' f' : Option OpenRefusal) → a ≡ a' → b ≡ b' → c ≡ c' → d ≡ d' → e ≡ e' → f ≡ f'
    → first_of (a ∷ b ∷ c ∷ d ∷ e ∷ f ∷ []) ≡ first_of (a' ∷ b' ∷ c' ∷ d' ∷ e' ∷ f' ∷ [])
six a b c d e f a' b' c' d' e' f' p q r s t u = rw (p, q, r, s, t, u) refl

-- a counter stands in its slot
counter_at : (at : ℕ) (file : List ℕ) (panel place : ℕ) → panel < 8 → at + bytes_of_slot ≤ front_bytes → great_counter at file panel ≡ Some place → place < front_bytes
counter_at at file panel place less fits is = go (nat_lt greatest_count (number_at 4 (at + counters_place + 4 * panel) file)) is
  where
    go : (b : Bool) → (if b then Some (at + counters_place + 4 * panel) else None) ≡ Some place → place < front_bytes
    go true e = let same : at + counters_place + 4 * panel ≡ place = cc in omega (arith, same, less, fits)
    go false e = absurd (cc)

counter_within : (at : ℕ) (file : List ℕ) (n place : ℕ) → n ≤ 8 → at + bytes_of_slot ≤ front_bytes → first_in (great_counter at file) n ≡ Some place → place < front_bytes
counter_within at file n place le fits is =
    found-within (great_counter at file) (λ k. k < front_bytes) n (λ i k less e. counter_at at file i k (omega (arith, less, le)) fits e) place is

module _ (front file : List ℕ) (agrees : Agrees front_bytes front 0 file 0) where
  pub byte_same : (i : ℕ) → i < front_bytes → slice_index front i ≡ slice_index file i
  byte_same i less = subst (λ (k : ℕ). slice_index front k ≡ slice_index file k) (zero-add i) (agrees.same i less)

  pub part_same : (n at : ℕ) → at + n ≤ front_bytes → Agrees n front at file at
  part_same n at fits = record { same = λ i less. byte_same (at + i) (omega (arith, fits, less)) }

  pub number_same : (at : ℕ) → at + bytes_of_slot ≤ front_bytes → slot_number at front ≡ slot_number at file
  number_same at fits = slot_number-agrees true front at file at (part_same bytes_of_slot at fits)

  pub retained_same : (wide : Bool) (at : ℕ) → at + bytes_of_slot ≤ front_bytes → retained_at wide at front ≡ retained_at wide at file
  retained_same wide at fits = retained-agrees wide front at file at (part_same bytes_of_slot at fits)

  pub open_same : (at : ℕ) → at < front_bytes → is_open at front ≡ is_open at file
  open_same at less = ap (λ (b : ℕ). b == 1) (byte_same at less)

  pub second_same : is_second front ≡ is_second file
  second_same =
      let b = byte_same second_slot (omega arith) in
      let a = byte_same first_slot (omega arith) in
      let m = number_same first_slot (omega arith) in
      let n = number_same second_slot (omega arith) in
      rw (a, b, m, n) refl

  pub chosen_same : chosen_place front ≡ chosen_place file
  chosen_same = ap slot_place second_same

  mark_same : not_a_journal front ≡ not_a_journal file
  mark_same = let e = bytes-agree 8 front 0 file 0 (sooner front_bytes front 0 file 0 8 agrees (omega arith)) in rw e refl

  len_same : (len : ℕ) → cut_short len front ≡ cut_short len file
  len_same len = let e = byte_same 40 (omega arith) in rw e refl

  digest_same : (digest : List ℕ) → other_site digest front ≡ other_site digest file
  digest_same digest = let e = bytes-agree 32 front 8 file 8 (part_same 32 8 (omega arith)) in rw e refl

  gates_same : no_open_slot front ≡ no_open_slot file
  gates_same =
      let a = byte_same first_slot (omega arith) in
      let b = byte_same second_slot (omega arith) in
      rw (a, b) refl

  numbers_same : (at : ℕ) → at + bytes_of_slot ≤ front_bytes → number_too_great at front ≡ number_too_great at file
  numbers_same at fits =
      let n = number_same at fits in
      let b = byte_same (at + 1) (omega (arith, fits)) in
      rw (n, b) refl

  counter_same : (at : ℕ) → at + bytes_of_slot ≤ front_bytes → (panel : ℕ) → panel < 8 → great_counter at front panel ≡ great_counter at file panel
  counter_same at fits panel less =
      let e =
      number-agrees 4 front (at + counters_place + 4 * panel) file (at + counters_place + 4 * panel) (part_same 4 (at + counters_place + 4 * panel) (omega (arith, fits, less))) in
      rw e refl

  found_at : (at : ℕ) → at + bytes_of_slot ≤ front_bytes → (found : Option ℕ) → ((place : ℕ) → found ≡ Some place → place < front_bytes)
      → damaged front found ≡ damaged file found
  found_at at fits None within = refl
  found_at at fits (Some place) within = let e = byte_same place (within place refl) in rw e refl

  counters_same : (at : ℕ) → at + bytes_of_slot ≤ front_bytes → counter_too_great at front ≡ counter_too_great at file
  counters_same at fits =
      found_at at fits (first_in (great_counter at front) 8) (λ place is. counter_within at front 8 place (omega arith) fits is)
      ∙ ap (damaged file) (first-same (great_counter at front) (great_counter at file) 8 (counter_same at fits))

  pub front_same : (digest : List ℕ) (len : ℕ) → front_refusal digest len front ≡ front_refusal digest len file
  front_same digest len =
      let fits = chosen_fits (is_second file) in
      six _ _ _ _ _ _ _ _ _ _ _ _ mark_same (len_same len) (digest_same digest) gates_same
      (ap (λ at. number_too_great at front) chosen_same ∙ numbers_same (chosen_place file) fits)
      (ap (λ at. counter_too_great at front) chosen_same ∙ counters_same (chosen_place file) fits)
