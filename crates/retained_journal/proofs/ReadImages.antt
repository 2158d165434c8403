-- A file that was read, or made, is an image of the journal that was opened.
use Rattle.std.proofs.Common.{inl, inr, ◌≡◌, ◌≢◌, ◌⊎◌, ◌+◌, ◌^◌, ◌<◌, ◌≤◌, ◌==◌, ℕ, Bool, true, false, List, [], ◌∷◌, slice_index, length, refl, sym, ap, ◌∙◌, subst, arith}
use Rattle.std.specs.Prelude.{Option, Some, None, if◌then◌else◌, ◌&&◌, ◌||◌, not, nat_lt, nat_le, bytes_eq, MatchBool}
use Rattle.std.proofs.lemmas.Bool.Decides.{eqb_tells, leb_tells, nat_tests}
use Rattle.std.proofs.lemmas.Slice.Eq.{bytes_eq-Decides}
use Rattle.site_types.specs.Changes.{AreCounters}
use Rattle.retained_journal.specs.declared.journal.Journal.{Journal}
use Rattle.retained_journal.specs.declared.replay.Replay.{Replay}
use Rattle.retained_journal.specs.declared.log_gate.LogGate.TheVariants.{Shut, Open}
use Rattle.retained_journal.specs.declared.open_refusal.OpenRefusal.{OpenRefusal}
use Rattle.retained_journal.specs.Fields.{bytes_at, first_in, number_at, run_length}
use Rattle.retained_journal.specs.Places.{cell_place, file_mark, log_gate, slot_place, whole_bytes}
use Rattle.retained_journal.specs.Places.{front_bytes, second_slot, first_slot, most_cells}
use Rattle.retained_journal.specs.Slots.{IsKeepable, counters_at, slot_number}
use Rattle.retained_journal.specs.Cells.{is_next, wrong_in_cell}
use Rattle.retained_journal.specs.Opening.{change_out_of_form, chosen_place, counted, damaged, first_of, front_refusal, great_counter, is_open, is_second, kept_in, refusal_of}
use Rattle.retained_journal.specs.Images.{HasLog, HoldsBatch, HoldsCopy, IsBehind, IsImage, IsSound, MayCount, OpensToKept, chosen_of, next_of, other_of}
use Rattle.retained_journal.specs.Journals.{IsOfFront, IsReadFrom}
use Rattle.retained_journal.proofs.Finding.{none_each}
use Rattle.retained_journal.proofs.Images.{is_next_both}
use Rattle.retained_journal.proofs.Keeping.{small_counters}
use Rattle.retained_journal.proofs.NewFiles.{opens_with}
use Rattle.retained_journal.proofs.Openings.{is_one, no_cause}
use Rattle.retained_journal.proofs.Replaying.{run_holds, run_past}

-- what a test that passes says
passed_if : (b : Bool) (r : OpenRefusal) → (if b then None else Some r) ≡ None → b ≡ true
passed_if true r h = refl
passed_if false r h = absurd (cc)

pub none_damaged : (file : List ℕ) (found : Option ℕ) → damaged file found ≡ None → found ≡ None
none_damaged file None h = refl
none_damaged file (Some at) h = absurd (cc)

pub both_none : (a b : Option OpenRefusal) → first_of (a ∷ b ∷ []) ≡ None → (a ≡ None) × (b ≡ None)
both_none None None h = (refl, refl)
both_none None (Some x) h = absurd (cc)
both_none (Some x) b h = absurd (cc)

is_gate : (n : ℕ) → (n == 1) ≡ true → n ≡ 1
is_gate n h = grind (arith, nat_tests)

not_gate : (n : ℕ) → (n == 1) ≡ false → n ≢ 1
not_gate n h one = let t = is_one n one in cc

-- the chosen slot is open, and the other is behind it where it is open
chosen_open : (a b : ℕ) (less : Bool) (second : Bool) → ((b == 1) && (not (a == 1) || less)) ≡ second → ((a == 1) || (b == 1)) ≡ true
    → (if second then b else a) ≡ 1
chosen_open a b less second is some = go (eqb_tells a 1) (eqb_tells b 1)
  where
    go : (((a == 1) ≡ true) × (a ≡ 1)) ⊎ (((a == 1) ≡ false) × (a ≢ 1)) → (((b == 1) ≡ true) × (b ≡ 1)) ⊎ (((b == 1) ≡ false) × (b ≢ 1))
        → (if second then b else a) ≡ 1
    go (inl x) (inl y) = pick second x.1 y.1
      where
        pick : (s : Bool) → a ≡ 1 → b ≡ 1 → (if s then b else a) ≡ 1
        pick true p q = q
        pick false p q = p
    go (inr x) (inl y) = let e : true ≡ second = (rw (y.0, x.0) at is) in subst (λ (s : Bool). (if s then b else a) ≡ 1) e y.1
    go (inl x) (inr y) = let e : false ≡ second = (rw y.0 at is) in subst (λ (s : Bool). (if s then b else a) ≡ 1) e x.1
    go (inr x) (inr y) = absurd (let e = rw (x.0, y.0) at some in cc)

other_behind : (m n : ℕ) (a b : Bool) (second : Bool) → (b && (not a || nat_lt m n)) ≡ second → (if second then a else b) ≡ true
    → IsBehind second (if second then m else n) (if second then n else m)
other_behind m n a b true is open' = ltb_true m n (go a b (nat_lt m n) open' is)
  where
    go : (x y z : Bool) → x ≡ true → (y && (not x || z)) ≡ true → z ≡ true
    go true true z p q = q
    go false y z p q = absurd (cc)
    go true false z p q = absurd (cc)

    ltb_true : (i k : ℕ) → nat_lt i k ≡ true → i < k
    ltb_true i k h = grind (arith, nat_tests)
other_behind m n a b false is open' = ltb_false m n (go a b (nat_lt m n) open' is)
  where
    go : (x y z : Bool) → y ≡ true → (y && (not x || z)) ≡ false → z ≡ false
    go true true z p q = q
    go false true z p q = absurd (cc)
    go x false z p q = absurd (cc)

    ltb_false : (i k : ℕ) → nat_lt i k ≡ false → k ≤ i
    ltb_false i k h = grind (arith, nat_tests)

place_if : (second : Bool) (file : List ℕ) → slice_index file (slot_place second) ≡ (if second then slice_index file second_slot else slice_index file first_slot)
place_if true file = refl
place_if false file = refl

long_of : (len : ℕ) (open' : Bool) (r : OpenRefusal) → (if nat_lt len front_bytes || (open' && nat_lt len whole_bytes) then Some r else None) ≡ None
    → (front_bytes ≤ len) × (open' ≡ true → whole_bytes ≤ len)
long_of len open' r h = go (leb_tells front_bytes len) (leb_tells whole_bytes len) open' refl
  where
    go : ((nat_le front_bytes len ≡ true) × (front_bytes ≤ len)) ⊎ ((nat_le front_bytes len ≡ false) × (len < front_bytes))
        → ((nat_le whole_bytes len ≡ true) × (whole_bytes ≤ len)) ⊎ ((nat_le whole_bytes len ≡ false) × (len < whole_bytes)) → (b : Bool) → open' ≡ b
        → (front_bytes ≤ len) × (open' ≡ true → whole_bytes ≤ len)
    go (inr short) w b is = absurd (let f = short.1 in let t : nat_lt len front_bytes ≡ true = grind (arith, nat_tests) in let g = rw t at h in cc)
    go (inl l) (inl w) b is = (l.1, λ o. w.1)
    go (inl l) (inr short) false is = (l.1, λ o. absurd (cc))
    go (inl l) (inr short) true is = absurd (let f = short.1 in let s = l.1 in let t : nat_lt len whole_bytes ≡ true = grind (arith, nat_tests) in
        let u : nat_lt len front_bytes ≡ false = grind (arith, nat_tests) in let g = rw (u, is, t) at h in cc)

both_true : (a b c : Bool) → a ≡ true → b ≡ true → (a && (b && c)) ≡ c
both_true true true c p q = refl
both_true false b c p q = absurd (cc)
both_true true false c p q = absurd (cc)

below : (n : ℕ) → n < most_cells → nat_lt n most_cells ≡ true
below n less = grind (arith, nat_tests)

-- an opened journal is sound
pub sound_read : (wide : Bool) (digest front : List ℕ) (second : Bool) (replay : Replay) (j : Journal) → IsOfFront wide digest front second replay j
    → IsKeepable wide replay.kept → replay.cells ≤ most_cells → replay.number ≤ 2 ^ 63 + most_cells → IsSound j
sound_read wide digest front second replay j of keeps few bound = record {
  few = let e = of.cells in omega (arith, e, few);
  keeps = let w = of.same_wide in let k = of.kept in rw (w, k) keeps;
  bound = let e = of.number in omega (arith, e, bound);
  untorn =
      λ whole. (
        open_log (is_open log_gate front) replay.is_next_open (sym of.torn ∙ whole) of.log,
        of.next ∙ not_next (is_open log_gate front) replay.is_next_open (sym of.torn ∙ whole),
        of.moving,
      );
}
  where
    open_log : (a b : Bool) → (not a || b) ≡ false → j.log ≡ (if a then Open else Shut) → j.log ≡ Open
    open_log true b h is = is
    open_log false b h is = absurd (cc)

    not_next : (a b : Bool) → (not a || b) ≡ false → b ≡ false
    not_next true b h = h
    not_next false b h = absurd (cc)

module _ (wide : Bool) (digest file : List ℕ) (j : Journal) (read : IsReadFrom wide digest file j) (none : refusal_of wide digest file ≡ None) where
  causes : (front_refusal digest (length file) file ≡ None) × (change_out_of_form wide file ≡ None)
  causes = both_none (front_refusal digest (length file) file) (change_out_of_form wide file) none

  long : (front_bytes ≤ length file) × (is_open log_gate file ≡ true → whole_bytes ≤ length file)
  long = long_of (length file) (is_open log_gate file) _ (no_cause digest (length file) file causes.0).1

  chosen : chosen_of j ≡ chosen_place file
  chosen = ap slot_place read.second

  count_is : is_open log_gate file ≡ true → (i : ℕ) → i < counted file
      → is_next (slot_number (chosen_place file) file + 1 + i) (cell_place i) file ≡ true
  count_is open' i less = run_holds (λ k. is_next (slot_number (chosen_place file) file + 1 + k) (cell_place k) file) most_cells i (let e =
      count_open open' in omega (arith, less, e))
    where
      count_open : is_open log_gate file ≡ true
          → counted file ≡ run_length (λ k. is_next (slot_number (chosen_place file) file + 1 + k) (cell_place k) file) 0 most_cells
      count_open o = rw o refl

  -- it opens to what the journal keeps, and as many cells count as the journal says
  pub read_opens : OpensToKept j file × (counted file ≡ j.cells)
  read_opens =
      let w = read.same_wide in
      let d = read.same_digest in
      let k = read.kept in (
        rw (w, d, k) (opens_with (length file) (let l = long.0 in omega (arith, l)) (front_refusal digest (length file) file)
            (change_out_of_form wide file) (kept_in wide file) causes.0 causes.1),
        sym read.cells,
      )

  pub read_image : IsImage j file
  read_image = record {
    size = long.0;
    mark =
        (bytes_eq-Decides (bytes_at 8 0 file) file_mark).0
        (passed_if (bytes_eq (bytes_at 8 0 file) file_mark) _ (no_cause digest (length file) file causes.0).0);
    site =
        (bytes_eq-Decides (bytes_at 32 8 file) digest).0
        (passed_if (bytes_eq (bytes_at 32 8 file) digest) _ (no_cause digest (length file) file causes.0).2) ∙ sym read.same_digest;
    log = log_is (is_open log_gate file) refl;
    gate =
        subst (λ (at : ℕ). slice_index file at ≡ 1) (sym chosen)
        (place_if (is_second file) file ∙ chosen_open (slice_index file first_slot) (slice_index file second_slot) _ (is_second file) refl
        (passed_if (is_open first_slot file || is_open second_slot file) _ (no_cause digest (length file) file causes.0).3));
    number = let c = chosen in let n = read.number in let k = read.cells in rw (c, n, k) refl;
    small =
        subst (λ (at : ℕ). AreCounters (counters_at at file)) (sym chosen)
        (small_counters (chosen_place file) file
        (none_damaged file (first_in (great_counter (chosen_place file) file) 8) (no_cause digest (length file) file causes.0).5));
    counts =
        λ i less. subst (λ (at : ℕ). is_next (slot_number at file + 1 + i) (cell_place i) file ≡ true) (sym chosen)
        (counts (is_open log_gate file) refl i (let k = read.cells in omega (arith, k, less)));
    form =
        λ i less. subst (λ (w : Bool). wrong_in_cell w (cell_place i) file ≡ None) (sym read.same_wide)
        (none_each (λ k. wrong_in_cell wide (cell_place k) file) (counted file) (none_damaged file _ causes.1) i (let k = read.cells in
        omega (arith, k, less)));
    state = let c = chosen in let k = read.cells in let w = read.same_wide in rw (c, k, w) (sym read.kept);
    next = λ may free. next_is may free j.cell_may_be_open refl;
    other = other_is j.slot_may_be_open refl;
  }
    where
      log_is : (b : Bool) → is_open log_gate file ≡ b → HasLog j.log j.cells file
      log_is true is =
          subst (λ log. HasLog log j.cells file) (sym (read.log ∙ ap (λ (b : Bool). if b then Open else Shut) is))
          (is_gate (slice_index file log_gate) is, long.1 is)
      log_is false is =
          subst (λ log. HasLog log j.cells file) (sym (read.log ∙ ap (λ (b : Bool). if b then Open else Shut) is))
          (not_gate (slice_index file log_gate) is, read.cells ∙ rw is refl)

      counts : (b : Bool) → is_open log_gate file ≡ b → (i : ℕ) → i < counted file
          → is_next (slot_number (chosen_place file) file + 1 + i) (cell_place i) file ≡ true
      counts true is i less = count_is is i less
      counts false is i less = absurd (let z : counted file ≡ 0 = rw is refl in omega (arith, z, less))

      log_open : MayCount j.log → is_open log_gate file ≡ true
      log_open may = go (is_open log_gate file) refl
        where
          go : (b : Bool) → is_open log_gate file ≡ b → is_open log_gate file ≡ true
          go true is = is
          go false is = absurd (subst MayCount (read.log ∙ ap (λ (b : Bool). if b then Open else Shut) is) may)

      next_gate : (may : MayCount j.log) → j.cells < most_cells → j.cell_may_be_open ≡ is_open (next_of j) file
      next_gate may free =
          read.next
          ∙ both_true (is_open log_gate file) (nat_lt (counted file) most_cells) (is_open (cell_place (counted file)) file) (log_open may) (let e =
          read.cells in below (counted file) (omega (arith, e, free)))
          ∙ ap (λ (n : ℕ). is_open (cell_place n) file) (sym read.cells)

      number_not : (may : MayCount j.log) → j.cells < most_cells → slice_index file (next_of j) ≡ 1 → number_at 8 (next_of j + 1) file ≢ j.number + 1
      number_not may free one same =
          absurd (let f = past in let t =
          is_next_both (slot_number (chosen_place file) file + 1 + counted file) (cell_place (counted file)) file
          (subst (λ (n : ℕ). slice_index file (cell_place n) ≡ 1) read.cells one)
          (subst (λ (n : ℕ). number_at 8 (cell_place n + 1) file ≡ slot_number (chosen_place file) file + 1 + counted file) read.cells
          (same ∙ numbers)) in cc)
        where
          numbers : j.number + 1 ≡ slot_number (chosen_place file) file + 1 + counted file
          numbers = let n = read.number in omega (arith, n)

          count_open : counted file ≡ run_length (λ k. is_next (slot_number (chosen_place file) file + 1 + k) (cell_place k) file) 0 most_cells
          count_open = let o = log_open may in rw o refl

          past : is_next (slot_number (chosen_place file) file + 1 + counted file) (cell_place (counted file)) file ≡ false
          past =
              subst (λ (n : ℕ). is_next (slot_number (chosen_place file) file + 1 + n) (cell_place n) file ≡ false) (sym count_open)
              (run_past (λ k. is_next (slot_number (chosen_place file) file + 1 + k) (cell_place k) file) most_cells (let e = count_open in let k =
              read.cells in omega (arith, e, k, free)))

      next_is : (may : MayCount j.log) → (free : j.cells < most_cells) → (b : Bool) → j.cell_may_be_open ≡ b
          → MatchBool b ((number_at 8 (next_of j + 1) file ≢ j.number + 1) ⊎ HoldsBatch j file) (slice_index file (next_of j) ≢ 1)
      next_is may free true is = inl (number_not may free (is_gate (slice_index file (next_of j)) (sym (next_gate may free) ∙ is)))
      next_is may free false is = not_gate (slice_index file (next_of j)) (sym (next_gate may free) ∙ is)

      other_open : j.slot_may_be_open ≡ (if is_second file then is_open first_slot file else is_open second_slot file)
      other_open = read.slot ∙ go (is_second file)
        where
          go : (b : Bool) → is_open (slot_place (not b)) file ≡ (if b then is_open first_slot file else is_open second_slot file)
          go true = refl
          go false = refl

      numbers_if : (b : Bool) → slot_number (slot_place b) file ≡ (if b then slot_number second_slot file else slot_number first_slot file)
      numbers_if true = refl
      numbers_if false = refl

      others_if : (b : Bool) → slot_number (slot_place (not b)) file ≡ (if b then slot_number first_slot file else slot_number second_slot file)
      others_if true = refl
      others_if false = refl

      behind : j.slot_may_be_open ≡ true → IsBehind j.second (slot_number (other_of j) file) (slot_number (chosen_of j) file)
      behind is =
          subst (λ (b : Bool). IsBehind b (slot_number (slot_place (not b)) file) (slot_number (slot_place b) file)) (sym read.second)
          (let h =
          other_behind (slot_number first_slot file) (slot_number second_slot file) (is_open first_slot file) (is_open second_slot file) (is_second file) refl
          (sym other_open ∙ is) in
          subst (λ (n : ℕ). IsBehind (is_second file) n (slot_number (slot_place (is_second file)) file)) (sym (others_if (is_second file)))
          (subst (λ (n : ℕ). IsBehind (is_second file) (if is_second file then slot_number first_slot file else slot_number second_slot file) n)
          (sym (numbers_if (is_second file))) h))

      other_is : (b : Bool) → j.slot_may_be_open ≡ b
          → MatchBool b (IsBehind j.second (slot_number (other_of j) file) (slot_number (chosen_of j) file) ⊎ ((j.moving ≡ true) × HoldsCopy j file))
          (slice_index file (other_of j) ≢ 1)
      other_is true is = inl (behind is)
      other_is false is =
          not_gate (slice_index file (other_of j)) (sym (read.slot ∙ ap (λ (b : Bool). is_open (slot_place (not b)) file) (sym read.second)) ∙ is)
