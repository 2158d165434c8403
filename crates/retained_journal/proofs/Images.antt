-- What the images of a journal open to.
use Rattle.std.proofs.Common.{inl, inr, ◌≡◌, ◌≢◌, ◌⊎◌, ◌+◌, ◌^◌, ◌<◌, ◌≤◌, ◌==◌, ℕ, Bool, true, false, List, slice_index, length, refl, sym, ap, ◌∙◌, subst, arith}
use Rattle.std.specs.Prelude.{Some, None, if◌then◌else◌, ◌&&◌, ◌||◌, not, nat_lt, nat_le, MatchBool}
use Rattle.std.proofs.lemmas.Bool.Decides.{eqb_tells, leb_tells, nat_tests}
use Rattle.site_types.specs.Changes.{AreCounters, changed_by}
use Rattle.site_types.proofs.Changes.{changed_by-append}
use Rattle.site_types.specs.declared.retained.Retained.{Retained}
use Rattle.retained_journal.specs.declared.journal.Journal.{Journal}
use Rattle.retained_journal.specs.declared.log_gate.LogGate.{LogGate}
use Rattle.retained_journal.specs.declared.log_gate.LogGate.TheVariants.{Shut, Ready, Open}
use Rattle.retained_journal.specs.declared.open_refusal.OpenRefusal.{OpenRefusal}
use Rattle.retained_journal.specs.declared.open_refusal.OpenRefusal.TheVariants.{Damaged}
use Rattle.retained_journal.specs.Fields.{bytes_at, number_at}
use Rattle.retained_journal.specs.Places.{cell_place, digest_place, file_mark, log_gate, slot_place, whole_bytes}
use Rattle.retained_journal.specs.Places.{front_bytes, second_slot, first_slot, most_cells}
use Rattle.retained_journal.specs.Slots.{counters_at, retained_at, slot_number}
use Rattle.retained_journal.specs.Cells.{cell_changes, changes_of_cells, is_next, wrong_in_cell}
use Rattle.retained_journal.specs.Opening.{Opens, change_out_of_form, chosen_place, counted, counter_too_great}
use Rattle.retained_journal.specs.Opening.{damaged, front_refusal, is_open, is_second, kept_in, no_open_slot}
use Rattle.retained_journal.specs.Opening.{not_a_journal, number_too_great, opened, other_site}
use Rattle.retained_journal.specs.Images.{HasLog, HoldsBatch, HoldsCopy, IsBehind, IsImage, IsSound, MayCount, MayLeave, OpensToKept, OpensToKeptOrAttempt, chosen_of, next_of, other_of}
use Rattle.retained_journal.proofs.Finding.{none_below}
use Rattle.retained_journal.proofs.FrontAgreement.{six}
use Rattle.retained_journal.proofs.NewFiles.{bytes_eq_same, no_great_counter, opens_with}
use Rattle.retained_journal.proofs.Openings.{is_one, not_one}
use Rattle.retained_journal.proofs.Replaying.{cells-more, cells-none, run_is}

-- what makes a file open to a slot and some cells behind it
pub record OpensBy (wide : Bool) (digest : List ℕ) (second : Bool) (cells : ℕ) (file : List ℕ) : Type 0 where
  pub size : front_bytes ≤ length file
  pub whole : is_open log_gate file ≡ true → whole_bytes ≤ length file
  pub mark : bytes_at 8 0 file ≡ file_mark
  pub site : bytes_at 32 digest_place file ≡ digest
  pub chosen : is_second file ≡ second
  pub gate : slice_index file (slot_place second) ≡ 1
  pub number : slot_number (slot_place second) file ≤ 2 ^ 63
  pub small : AreCounters (counters_at (slot_place second) file)
  pub count : counted file ≡ cells
  pub form : (i : ℕ) → i < cells → wrong_in_cell wide (cell_place i) file ≡ None

gate_open : (second : Bool) (file : List ℕ) → slice_index file (slot_place second) ≡ 1 → no_open_slot file ≡ None
gate_open true file one = go (is_open first_slot file) (is_open second_slot file) (is_one (slice_index file second_slot) one) (Damaged first_slot (slice_index file first_slot))
  where
    go : (a b : Bool) → b ≡ true → (r : OpenRefusal) → (if a || b then None else Some r) ≡ None
    go true b is r = refl
    go false true is r = refl
    go false false is r = absurd (cc)
gate_open false file one = let e = is_one (slice_index file first_slot) one in rw e refl

not_cut : (len : ℕ) (open' : Bool) (refusal : OpenRefusal) → front_bytes ≤ len → (open' ≡ true → whole_bytes ≤ len)
    → (if nat_lt len front_bytes || (open' && nat_lt len whole_bytes) then Some refusal else None) ≡ None
not_cut len true refusal size whole = let w = whole refl in let a : nat_lt len front_bytes ≡ false = grind (arith, nat_tests) in
    let b : nat_lt len whole_bytes ≡ false = grind (arith, nat_tests) in rw (a, b) refl
not_cut len false refusal size whole = let a : nat_lt len front_bytes ≡ false = grind (arith, nat_tests) in rw a refl

pub opens_by : (wide : Bool) (digest : List ℕ) (second : Bool) (cells : ℕ) (file : List ℕ) → OpensBy wide digest second cells file
    → opened wide digest file ≡ Opens (changed_by (changes_of_cells file cells) (retained_at wide (slot_place second) file))
opens_by wide digest second cells file by =
    opens_with (length file) (let h = by.size in omega (arith, h)) (front_refusal digest (length file) file) (change_out_of_form wide file)
    (kept_in wide file) front form ∙ ap Opens kept
  where
    mark : not_a_journal file ≡ None
    mark = let e = by.mark in rw e refl

    site : other_site digest file ≡ None
    site = let e = by.site in let t = bytes_eq_same digest in rw (e, t) refl

    number : number_too_great (slot_place second) file ≡ None
    number = let h = by.number in let t : nat_lt (2 ^ 63) (slot_number (slot_place second) file) ≡ false = grind (arith, nat_tests) in rw t refl

    front : front_refusal digest (length file) file ≡ None
    front =
        six _ _ _ _ _ _ None None None None None None mark (not_cut (length file) (is_open log_gate file) _ by.size by.whole) site
        (gate_open second file by.gate)
        (ap (λ b. number_too_great (slot_place b) file) by.chosen ∙ number)
        (ap (λ b. counter_too_great (slot_place b) file) by.chosen ∙ ap (damaged file) (no_great_counter (slot_place second) file by.small))

    form : change_out_of_form wide file ≡ None
    form = let e = by.count in rw e (ap (damaged file) (none_below (λ i. wrong_in_cell wide (cell_place i) file) cells by.form))

    kept : kept_in wide file ≡ changed_by (changes_of_cells file cells) (retained_at wide (slot_place second) file)
    kept = let n = by.count in let s = by.chosen in rw (n, s) refl

-- ---- which slot is chosen

chosen_first : (file : List ℕ) → slice_index file first_slot ≡ 1 → (slice_index file second_slot ≢ 1) ⊎ (slot_number second_slot file ≤ slot_number first_slot file)
    → is_second file ≡ false
chosen_first file one (inl shut) = let e = not_one (slice_index file second_slot) shut in rw e refl
chosen_first file one (inr le) =
    let e = is_one (slice_index file first_slot) one in
    let t : nat_lt (slot_number first_slot file) (slot_number second_slot file) ≡ false = grind (arith, nat_tests) in
    go (is_open second_slot file) (is_open first_slot file) (nat_lt (slot_number first_slot file) (slot_number second_slot file)) e t
  where
    go : (a b c : Bool) → b ≡ true → c ≡ false → (a && (not b || c)) ≡ false
    go true true false p q = refl
    go false b c p q = refl
    go true false c p q = absurd (cc)
    go true true true p q = absurd (cc)

chosen_second : (file : List ℕ) → slice_index file second_slot ≡ 1 → (slice_index file first_slot ≢ 1) ⊎ (slot_number first_slot file < slot_number second_slot file)
    → is_second file ≡ true
chosen_second file one (inl shut) = let e = is_one (slice_index file second_slot) one in let f = not_one (slice_index file first_slot) shut in rw (e, f) refl
chosen_second file one (inr less) =
    let e = is_one (slice_index file second_slot) one in
    let t : nat_lt (slot_number first_slot file) (slot_number second_slot file) ≡ true = grind (arith, nat_tests) in
    go (is_open second_slot file) (is_open first_slot file) (nat_lt (slot_number first_slot file) (slot_number second_slot file)) e t
  where
    go : (a b c : Bool) → a ≡ true → c ≡ true → (a && (not b || c)) ≡ true
    go true true true p q = refl
    go true false c p q = refl
    go false b c p q = absurd (cc)
    go true true false p q = absurd (cc)

-- the other slot doesn't count
stays_chosen : (second : Bool) (file : List ℕ) → slice_index file (slot_place second) ≡ 1 → (slice_index file (slot_place (not second)) ≢ 1)
    ⊎ IsBehind second (slot_number (slot_place (not second)) file) (slot_number (slot_place second) file) → is_second file ≡ second
stays_chosen true file one other = chosen_second file one other
stays_chosen false file one other = chosen_first file one other

-- the other slot counts
moves_over : (second : Bool) (file : List ℕ) → slice_index file (slot_place (not second)) ≡ 1
    → slot_number (slot_place second) file < slot_number (slot_place (not second)) file → is_second file ≡ not second
moves_over true file one less = chosen_first file one (inr (omega (arith, less)))
moves_over false file one less = chosen_second file one (inr less)

-- ---- how many cells count

uncounted : (file : List ℕ) → slice_index file log_gate ≢ 1 → counted file ≡ 0
uncounted file shut = let e = not_one (slice_index file log_gate) shut in rw e refl

counted_open : (file : List ℕ) (at k : ℕ) → slice_index file log_gate ≡ 1 → chosen_place file ≡ at
    → ((i : ℕ) → i < k → is_next (slot_number at file + 1 + i) (cell_place i) file ≡ true)
    → (k ≡ most_cells) ⊎ ((k < most_cells) × (is_next (slot_number at file + 1 + k) (cell_place k) file ≡ false)) → counted file ≡ k
counted_open file at k one chosen count end =
    let e = is_one (slice_index file log_gate) one in
    rw (e, chosen) (run_is (λ i. is_next (slot_number at file + 1 + i) (cell_place i) file) most_cells k count end)

not_next_gate : (number at : ℕ) (file : List ℕ) → slice_index file at ≢ 1 → is_next number at file ≡ false
not_next_gate number at file shut = let e = not_one (slice_index file at) shut in rw e refl

not_next_number : (number at : ℕ) (file : List ℕ) → number_at 8 (at + 1) file ≢ number → is_next number at file ≡ false
not_next_number number at file other = both (slice_index file at == 1) (number_at 8 (at + 1) file == number) (grind (arith, nat_tests))
  where
    both : (a b : Bool) → b ≡ false → (a && b) ≡ false
    both true b e = e
    both false b e = refl

pub is_next_both : (number at : ℕ) (file : List ℕ) → slice_index file at ≡ 1 → number_at 8 (at + 1) file ≡ number → is_next number at file ≡ true
is_next_both number at file one same =
    let e = is_one (slice_index file at) one in
    let f : (number_at 8 (at + 1) file == number) ≡ true = grind (arith, nat_tests) in
    rw (e, f) refl

pub next_number_is : (number at : ℕ) (file : List ℕ) → is_next number at file ≡ true → number_at 8 (at + 1) file ≡ number
next_number_is number at file next = both (slice_index file at == 1) (eqb_tells (number_at 8 (at + 1) file) number) next
  where
    both : (a : Bool) → (((number_at 8 (at + 1) file == number) ≡ true) × (number_at 8 (at + 1) file ≡ number))
        ⊎ (((number_at 8 (at + 1) file == number) ≡ false) × (number_at 8 (at + 1) file ≢ number))
        → (a && (number_at 8 (at + 1) file == number)) ≡ true → number_at 8 (at + 1) file ≡ number
    both a (inl same) h = same.1
    both true (inr other) h = absurd (let e = other.0 in cc)
    both false (inr other) h = absurd (cc)

-- ---- what counts in an image where no step is left out

module _ (j : Journal) (c : List ℕ) (sound : IsSound j) (image : IsImage j c) (open' : j.log ≡ Open) (sure : j.cell_may_be_open ≡ false) (still :
    j.moving ≡ false) where
  -- the chosen slot, and the cells that are known
  pub whole_counts : (is_second c ≡ j.second) × (counted c ≡ j.cells)
  whole_counts = by_other j.slot_may_be_open image.other
    where
      one : slice_index c log_gate ≡ 1
      one = (subst (λ log. HasLog log j.cells c) open' image.log).0

      not_next : j.cells < most_cells → is_next (j.number + 1) (next_of j) c ≡ false
      not_next free = go j.cell_may_be_open sure (image.next (subst MayCount (sym open') tt) free)
        where
          go : (b : Bool) → b ≡ false → MatchBool b ((number_at 8 (next_of j + 1) c ≢ j.number + 1) ⊎ HoldsBatch j c) (slice_index c (next_of j) ≢ 1)
              → is_next (j.number + 1) (next_of j) c ≡ false
          go true is h = absurd (cc)
          go false is h = not_next_gate (j.number + 1) (next_of j) c h

      numbers : j.number + 1 ≡ slot_number (chosen_of j) c + 1 + j.cells
      numbers = let n = image.number in omega (arith, n)

      end : ((nat_le most_cells j.cells ≡ true) × (most_cells ≤ j.cells)) ⊎ ((nat_le most_cells j.cells ≡ false) × (j.cells < most_cells))
          → (j.cells ≡ most_cells) ⊎ ((j.cells < most_cells) × (is_next (slot_number (chosen_of j) c + 1 + j.cells) (cell_place j.cells) c ≡ false))
      end (inl full) = inl (let f = full.1 in let s = sound.few in omega (arith, f, s))
      end (inr free) = inr (free.1, subst (λ (n : ℕ). is_next n (next_of j) c ≡ false) numbers (not_next free.1))

      by_chosen : is_second c ≡ j.second → (is_second c ≡ j.second) × (counted c ≡ j.cells)
      by_chosen second = (second, counted_open c (chosen_of j) j.cells one (ap slot_place second) image.counts (end (leb_tells most_cells j.cells)))

      by_other : (b : Bool)
          → MatchBool b (IsBehind j.second (slot_number (other_of j) c) (slot_number (chosen_of j) c) ⊎ ((j.moving ≡ true) × HoldsCopy j c))
          (slice_index c (other_of j) ≢ 1) → (is_second c ≡ j.second) × (counted c ≡ j.cells)
      by_other true (inl behind) = by_chosen (stays_chosen j.second c image.gate (inr behind))
      by_other true (inr moving) = absurd (let m = moving.0 in cc)
      by_other false shut = by_chosen (stays_chosen j.second c image.gate (inl shut))

-- ---- an image opens to what is kept, or to that with the batch last attempted

module _ (j : Journal) (c : List ℕ) (sound : IsSound j) (image : IsImage j c) (room : j.number < 2 ^ 63) where
  whole : is_open log_gate c ≡ true → whole_bytes ≤ length c
  whole open' = go j.log image.log
    where
      go : (log : LogGate) → HasLog log j.cells c → whole_bytes ≤ length c
      go Shut h = absurd (let e = not_one (slice_index c log_gate) h.0 in cc)
      go Ready h = h.0
      go Open h = h.1

  -- the chosen slot counts, with some cells behind it
  opens_chosen : (k : ℕ) → is_second c ≡ j.second → counted c ≡ k → ((i : ℕ) → i < k → wrong_in_cell j.wide (cell_place i) c ≡ None)
      → opened j.wide j.digest c ≡ Opens (changed_by (changes_of_cells c k) (retained_at j.wide (chosen_of j) c))
  opens_chosen k second count form = opens_by j.wide j.digest j.second k c (record {
    size = image.size;
    whole = whole;
    mark = image.mark;
    site = image.site;
    chosen = second;
    gate = image.gate;
    number = let n = image.number in omega (arith, n, room);
    small = image.small;
    count = count;
    form = form;
  })

  opens_cells : is_second c ≡ j.second → counted c ≡ j.cells → OpensToKept j c
  opens_cells second count = opens_chosen j.cells second count image.form ∙ ap Opens image.state

  chosen_is : is_second c ≡ j.second → chosen_place c ≡ chosen_of j
  chosen_is second = ap slot_place second

  -- no cell more counts
  none_more : is_second c ≡ j.second → (slice_index c log_gate ≡ 1 → j.cells < most_cells → is_next (j.number + 1) (next_of j) c ≡ false) → OpensToKept j c
  none_more second end = by_gate (eqb_tells (slice_index c log_gate) 1)
    where
      numbers : slot_number (chosen_of j) c + 1 + j.cells ≡ j.number + 1
      numbers = let n = image.number in omega (arith, n)

      no_cells : slice_index c log_gate ≢ 1 → j.cells ≡ 0
      no_cells shut = go j.log image.log
        where
          go : (log : LogGate) → HasLog log j.cells c → j.cells ≡ 0
          go Shut h = h.1
          go Ready h = h.1
          go Open h = absurd (shut h.0)

      by_count : slice_index c log_gate ≡ 1 → ((nat_le most_cells j.cells ≡ true) × (most_cells ≤ j.cells)) ⊎ ((nat_le most_cells j.cells ≡ false) × (j.cells < most_cells))
          → (j.cells ≡ most_cells) ⊎ ((j.cells < most_cells) × (is_next (slot_number (chosen_of j) c + 1 + j.cells) (cell_place j.cells) c ≡ false))
      by_count one (inl full) = inl (let f = full.1 in let s = sound.few in omega (arith, f, s))
      by_count one (inr free) = inr (free.1, subst (λ (n : ℕ). is_next n (next_of j) c ≡ false) (sym numbers) (end one free.1))

      by_gate : (((slice_index c log_gate == 1) ≡ true) × (slice_index c log_gate ≡ 1))
          ⊎ (((slice_index c log_gate == 1) ≡ false) × (slice_index c log_gate ≢ 1)) → OpensToKept j c
      by_gate (inl one) =
          opens_cells second (counted_open c (chosen_of j) j.cells one.1 (chosen_is second) image.counts (by_count one.1 (leb_tells most_cells j.cells)))
      by_gate (inr shut) = opens_cells second (uncounted c shut.1 ∙ sym (no_cells shut.1))

  -- the next cell counts, with the batch last attempted
  one_more : is_second c ≡ j.second → slice_index c log_gate ≡ 1 → j.cells < most_cells → slice_index c (next_of j) ≡ 1 → HoldsBatch j c
      → opened j.wide j.digest c ≡ Opens (changed_by j.attempt.items j.kept)
  one_more second one free gate holds =
      opens_chosen (j.cells + 1) second (counted_open c (chosen_of j) (j.cells + 1) one (chosen_is second) count end) form
      ∙ ap Opens (ap (λ changes. changed_by changes (retained_at j.wide (chosen_of j) c)) (cells-more c j.cells)
      ∙ changed_by-append (changes_of_cells c j.cells) (cell_changes (next_of j) c) (retained_at j.wide (chosen_of j) c)
      ∙ ap (changed_by (cell_changes (next_of j) c)) image.state
      ∙ ap (λ changes. changed_by changes j.kept) holds.changes)
    where
      numbers : j.number + 1 ≡ slot_number (chosen_of j) c + 1 + j.cells
      numbers = let n = image.number in omega (arith, n)

      at_or_below : (P : ℕ → Type 0) → ((i : ℕ) → i < j.cells → P i) → P j.cells → (i : ℕ) → i < j.cells + 1
          → ((nat_le j.cells i ≡ true) × (j.cells ≤ i)) ⊎ ((nat_le j.cells i ≡ false) × (i < j.cells)) → P i
      at_or_below P before here i less (inl at) = subst P (let a = at.1 in omega (arith, a, less)) here
      at_or_below P before here i less (inr below) = before i below.1

      count : (i : ℕ) → i < j.cells + 1 → is_next (slot_number (chosen_of j) c + 1 + i) (cell_place i) c ≡ true
      count i less =
          at_or_below (λ k. is_next (slot_number (chosen_of j) c + 1 + k) (cell_place k) c ≡ true) image.counts
          (is_next_both _ (next_of j) c gate (holds.next_number ∙ numbers)) i less (leb_tells j.cells i)

      form : (i : ℕ) → i < j.cells + 1 → wrong_in_cell j.wide (cell_place i) c ≡ None
      form i less = at_or_below (λ k. wrong_in_cell j.wide (cell_place k) c ≡ None) image.form holds.form i less (leb_tells j.cells i)

      end : (j.cells + 1 ≡ most_cells) ⊎ ((j.cells + 1 < most_cells) × (is_next (slot_number (chosen_of j) c + 1 + (j.cells + 1)) (cell_place (j.cells + 1)) c ≡ false))
      end = go (leb_tells most_cells (j.cells + 1))
        where
          go : ((nat_le most_cells (j.cells + 1) ≡ true) × (most_cells ≤ j.cells + 1)) ⊎ ((nat_le most_cells (j.cells + 1) ≡ false) × (j.cells + 1 < most_cells))
              → (j.cells + 1 ≡ most_cells)
              ⊎ ((j.cells + 1 < most_cells) × (is_next (slot_number (chosen_of j) c + 1 + (j.cells + 1)) (cell_place (j.cells + 1)) c ≡ false))
          go (inl full) = inl (let f = full.1 in omega (arith, f, free))
          go (inr less) = inr (less.1, not_next_gate _ (cell_place (j.cells + 1)) c holds.after_shut)

  may_count : slice_index c log_gate ≡ 1 → MayCount j.log
  may_count one = go j.log image.log
    where
      go : (log : LogGate) → HasLog log j.cells c → MayCount log
      go Shut h = absurd (h.0 one)
      go Ready h = tt
      go Open h = tt

  -- whatever the gates of the next cell are
  opens_either : is_second c ≡ j.second → OpensToKeptOrAttempt j c
  opens_either second = by_gate (eqb_tells (slice_index c log_gate) 1) (leb_tells most_cells j.cells)
    where
      by_next : (one : slice_index c log_gate ≡ 1) (free : j.cells < most_cells) (b : Bool)
          → MatchBool b ((number_at 8 (next_of j + 1) c ≢ j.number + 1) ⊎ HoldsBatch j c) (slice_index c (next_of j) ≢ 1)
          → (((slice_index c (next_of j) == 1) ≡ true) × (slice_index c (next_of j) ≡ 1))
          ⊎ (((slice_index c (next_of j) == 1) ≡ false) × (slice_index c (next_of j) ≢ 1)) → OpensToKeptOrAttempt j c
      by_next one free true (inr holds) (inl open') = inr (one_more second one free open'.1 holds)
      by_next one free true (inl other) gate = inl (none_more second (λ h k. not_next_number (j.number + 1) (next_of j) c other))
      by_next one free true (inr holds) (inr shut) = inl (none_more second (λ h k. not_next_gate (j.number + 1) (next_of j) c shut.1))
      by_next one free false shut gate = inl (none_more second (λ h k. not_next_gate (j.number + 1) (next_of j) c shut))

      by_gate : (((slice_index c log_gate == 1) ≡ true) × (slice_index c log_gate ≡ 1))
          ⊎ (((slice_index c log_gate == 1) ≡ false) × (slice_index c log_gate ≢ 1))
          → ((nat_le most_cells j.cells ≡ true) × (most_cells ≤ j.cells)) ⊎ ((nat_le most_cells j.cells ≡ false) × (j.cells < most_cells)) → OpensToKeptOrAttempt j c
      by_gate (inr shut) full = inl (none_more second (λ one free. absurd (shut.1 one)))
      by_gate (inl one) (inl full) = inl (none_more second (λ h free. absurd (let f = full.1 in omega (arith, f, free))))
      by_gate (inl one) (inr free) =
          by_next one.1 free.1 j.cell_may_be_open (image.next (may_count one.1) free.1) (eqb_tells (slice_index c (next_of j)) 1)

  -- the other slot counts, and holds what is kept
  opens_copy : slice_index c (other_of j) ≡ 1 → HoldsCopy j c → OpensToKept j c
  opens_copy gate holds = opens_by j.wide j.digest (not j.second) 0 c (record {
    size = image.size;
    whole = whole;
    mark = image.mark;
    site = image.site;
    chosen = over;
    gate = gate;
    number = let n = holds.copy_number in omega (arith, n, room);
    small = subst (λ (s : Retained). AreCounters s.counters) (sym holds.copy) sound.keeps.small;
    count = none;
    form = λ i less. absurd (omega (arith, less));
  }) ∙ ap Opens (ap (λ changes. changed_by changes (retained_at j.wide (other_of j) c)) (cells-none c) ∙ holds.copy)
    where
      over : is_second c ≡ not j.second
      over = moves_over j.second c gate (let n = holds.copy_number in let m = image.number in omega (arith, n, m))

      none : counted c ≡ 0
      none = by_gate (eqb_tells (slice_index c log_gate) 1)
        where
          first : number_at 8 (cell_place 0 + 1) c ≡ slot_number (chosen_of j) c + 1 + 0
          first = next_number_is _ (cell_place 0) c (image.counts 0 (let f = holds.all_cells in omega (arith, f)))

          by_gate : (((slice_index c log_gate == 1) ≡ true) × (slice_index c log_gate ≡ 1))
              ⊎ (((slice_index c log_gate == 1) ≡ false) × (slice_index c log_gate ≢ 1)) → counted c ≡ 0
          by_gate (inr shut) = uncounted c shut.1
          by_gate (inl one) = counted_open c (other_of j) 0 one.1 (ap slot_place over) (λ i less. absurd (omega (arith, less)))
              (inr (
                omega arith,
                not_next_number _ (cell_place 0) c (λ same. let n = holds.copy_number in let m = image.number in let f =
                    holds.all_cells in omega (arith, first, same, n, m, f)),
              ))

  pub opens_image : OpensToKeptOrAttempt j c
  opens_image = go j.slot_may_be_open image.other (eqb_tells (slice_index c (other_of j)) 1)
    where
      go : (b : Bool)
          → MatchBool b (IsBehind j.second (slot_number (other_of j) c) (slot_number (chosen_of j) c) ⊎ ((j.moving ≡ true) × HoldsCopy j c))
          (slice_index c (other_of j) ≢ 1)
          → (((slice_index c (other_of j) == 1) ≡ true) × (slice_index c (other_of j) ≡ 1))
          ⊎ (((slice_index c (other_of j) == 1) ≡ false) × (slice_index c (other_of j) ≢ 1)) → OpensToKeptOrAttempt j c
      go true (inl behind) gate = opens_either (stays_chosen j.second c image.gate (inr behind))
      go true (inr holds) (inl open') = inl (opens_copy open'.1 holds.1)
      go true (inr holds) (inr shut) = opens_either (stays_chosen j.second c image.gate (inl shut.1))
      go false shut gate = opens_either (stays_chosen j.second c image.gate (inl shut))

  -- where no step is left out, it opens to what is kept, and the cells that count are those that are known
  pub opens_whole : j.log ≡ Open → j.cell_may_be_open ≡ false → j.moving ≡ false → OpensToKept j c × (counted c ≡ j.cells)
  opens_whole open' sure still = let counts = whole_counts j c sound image open' sure still in (opens_cells counts.0 counts.1, counts.1)

  -- it opens to what is kept, or where the journal is torn to that with the batch last attempted
  pub may_leave : MayLeave j c
  may_leave = go j.torn refl
    where
      go : (b : Bool) → j.torn ≡ b → MayLeave j c
      go true is = torn is opens_image
        where
          torn : j.torn ≡ true → OpensToKeptOrAttempt j c → MayLeave j c
          torn t (inl kept) = inl kept
          torn t (inr attempt) = inr (t, attempt)
      go false is = let whole = sound.untorn is in inl (opens_whole whole.0 whole.1 whole.2).0
