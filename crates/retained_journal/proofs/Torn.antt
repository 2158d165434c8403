-- What a write, torn or whole, leaves of an image: all that an image needs where the write spares it.
use Rattle.std.proofs.Common.{inl, inr, ◌≡◌, ◌≢◌, ◌⊎◌, ◌+◌, ◌-◌, ◌*◌, ◌<◌, ◌≤◌, ℕ, zero, suc, Bool, true, false, List, slice_index, length, refl, sym, ap, ◌∙◌, subst, arith}
use Rattle.std.specs.Prelude.{not, MatchBool}
use Rattle.panel_edges.specs.Disks.{Holds, Torn}
use Rattle.site_types.specs.Changes.{AreCounters, changed_by}
use Rattle.retained_journal.specs.declared.journal.Journal.{Journal}
use Rattle.retained_journal.specs.declared.log_gate.LogGate.{LogGate}
use Rattle.retained_journal.specs.declared.log_gate.LogGate.TheVariants.{Shut, Ready, Open}
use Rattle.retained_journal.specs.Fields.{Agrees, number_at}
use Rattle.retained_journal.specs.Places.{cell_place, log_gate, slot_place, whole_bytes}
use Rattle.retained_journal.specs.Places.{bytes_of_slot, bytes_of_cell, front_bytes, most_cells, most_changes}
use Rattle.retained_journal.proofs.Lengths.{bytes_of_slot_body, bytes_of_changes}
use Rattle.retained_journal.specs.Places.{counters_place}
use Rattle.retained_journal.specs.Slots.{retained_at, slot_number}
use Rattle.retained_journal.specs.Cells.{cell_count, changes_of_cells, is_next}
use Rattle.retained_journal.specs.Images.{HasLog, HoldsBatch, HoldsCopy, IsBehind, IsImage, MayCount, chosen_of, next_of, other_of}
use Rattle.retained_journal.proofs.Agreement.{bytes-agree, first_byte, number-agrees, numbers-agree, part, retained-agrees, retained-body, slot_number-agrees, sooner}
use Rattle.retained_journal.proofs.CellAgreement.{cell_body, cell_changes-agree, cell_changes-body, is_next-agrees, wrong_in_cell-same}
use Rattle.retained_journal.proofs.Forms.{cell_in_form}
use Rattle.retained_journal.proofs.FrontAgreement.{chosen_fits}

-- a range that a write of n bytes at a place leaves alone
abbrev pub Apart : ℕ → ℕ → ℕ → ℕ → Type 0
Apart at n from m = (from + m ≤ at) ⊎ (at + n ≤ from)

-- a write of n bytes at a place leaves alone what an image of a journal needs
pub record Spares (j : Journal) (at n : ℕ) : Type 0 where
  pub front : 40 ≤ at
  pub log_gate_apart : (j.log ≡ Ready) ⊎ (41 ≤ at)
  pub slot : Apart at n (chosen_of j) bytes_of_slot
  pub cells_apart : (j.log ≡ Shut) ⊎ Apart at n front_bytes (bytes_of_cell * j.cells)
  pub next_apart : MayCount j.log → j.cells < most_cells → MatchBool j.cell_may_be_open (Apart at n (next_of j + 1) bytes_of_cell) (Apart at n (next_of j) 1)
  pub other_apart : MatchBool j.slot_may_be_open (Apart at n (other_of j + 1) bytes_of_slot_body) (Apart at n (other_of j) 1)

pub unharmed : (at n from m : ℕ) (d c : List ℕ) → Torn at n d c → from + m ≤ length d → Apart at n from m → Agrees m c from d from
unharmed at n from m d c torn fits (inl before) =
    record { same = λ i less. torn.same (from + i) (omega (arith, fits, less)) (inl (omega (arith, before, less))) }
unharmed at n from m d c torn fits (inr behind) =
    record { same = λ i less. torn.same (from + i) (omega (arith, fits, less)) (inr (omega (arith, behind))) }

pub byte_unharmed : (at n i : ℕ) (d c : List ℕ) → Torn at n d c → i < length d → Apart at n i 1 → slice_index c i ≡ slice_index d i
byte_unharmed at n i d c torn less (inl before) = torn.same i less (inl (omega (arith, before)))
byte_unharmed at n i d c torn less (inr behind) = torn.same i less (inr (omega (arith, behind)))

pub torn_holds : (at : ℕ) (bytes d c : List ℕ) → Holds at bytes d c → Torn at (length bytes) d c
torn_holds at bytes d c h = record { no_shorter = omega (arith, h.size); no_longer = omega (arith, h.size); same = h.same }

changes-same : (c d : List ℕ) (n : ℕ) → ((i : ℕ) → i < n → Agrees bytes_of_cell c (cell_place i) d (cell_place i))
    → ((i : ℕ) → i < n → cell_count (cell_place i) d ≤ most_changes) → changes_of_cells c n ≡ changes_of_cells d n
unfolding changes_of_cells
changes-same c d zero same few = refl
changes-same c d (suc n) same few =
    let before = changes-same c d n (λ i less. same i (omega arith)) (λ i less. few i (omega arith)) in
    let here = cell_changes-agree c (cell_place n) d (cell_place n) (same n (omega arith)) (few n (omega arith)) in
    rw (before, here) refl

other_place : (second : Bool) → slot_place (not second) + bytes_of_slot ≤ front_bytes
other_place true = omega arith
other_place false = omega arith

module _ (j : Journal) (d c : List ℕ) (at n : ℕ) (image : IsImage j d) (torn : Torn at n d c) (spares : Spares j at n) where
  pub longer : length d ≤ length c
  longer = torn.no_shorter

  slot_same : Agrees bytes_of_slot c (chosen_of j) d (chosen_of j)
  slot_same = unharmed at n (chosen_of j) bytes_of_slot d c torn (let s = image.size in let f = chosen_fits j.second in omega (arith, s, f)) spares.slot

  slot_numbers : slot_number (chosen_of j) c ≡ slot_number (chosen_of j) d
  slot_numbers = slot_number-agrees true c (chosen_of j) d (chosen_of j) slot_same

  -- where cells may count the file is whole
  whole : MayCount j.log → whole_bytes ≤ length d
  whole may = go j.log image.log may
    where
      go : (log : LogGate) → HasLog log j.cells d → MayCount log → whole_bytes ≤ length d
      go Shut h m = absurd m
      go Ready h m = h.0
      go Open h m = h.1

  cell_same : j.cells ≤ most_cells → (i : ℕ) → i < j.cells → Agrees bytes_of_cell c (cell_place i) d (cell_place i)
  cell_same few i less = go j.log refl image.log (whole) spares.cells_apart
    where
      go : (log : LogGate) → j.log ≡ log → HasLog log j.cells d → (MayCount j.log → whole_bytes ≤ length d)
          → (j.log ≡ Shut) ⊎ Apart at n front_bytes (bytes_of_cell * j.cells) → Agrees bytes_of_cell c (cell_place i) d (cell_place i)
      go Shut is h w apart = absurd (let z = h.1 in omega (arith, z, less))
      go Ready is h w apart = absurd (let z = h.1 in omega (arith, z, less))
      go Open is h w (inl shut) = absurd (cc)
      go Open is h w (inr (inl before)) =
          unharmed at n (cell_place i) bytes_of_cell d c torn (let l = h.1 in omega (arith, l, less, few)) (inl (omega (arith, before, less)))
      go Open is h w (inr (inr behind)) =
          unharmed at n (cell_place i) bytes_of_cell d c torn (let l = h.1 in omega (arith, l, less, few)) (inr (omega (arith, behind)))

  pub batch_kept : (may : MayCount j.log) → j.cells < most_cells → Agrees bytes_of_cell c (next_of j + 1) d (next_of j + 1) → HoldsBatch j d → HoldsBatch j c
  batch_kept may free same holds =
      record {
        next_number =
            number-agrees 8 c (next_of j + 1) d (next_of j + 1) (sooner bytes_of_cell c (next_of j + 1) d (next_of j + 1) 8 same (omega arith)) ∙
            holds.next_number;
        form = wrong_in_cell-same j.wide c d (next_of j) body ∙ holds.form;
        changes = cell_changes-body c (next_of j) d (next_of j) body (cell_in_form j.wide (next_of j) d holds.form).few ∙ holds.changes;
        after_shut = λ one. holds.after_shut (sym after ∙ one);
      }
    where
      body : Agrees bytes_of_changes c (next_of j + 9) d (next_of j + 9)
      body = record { same = λ i less. subst (λ (k : ℕ). slice_index c k ≡ slice_index d k) (omega arith) (same.same (8 + i) (omega (arith, less))) }

      after : slice_index c (cell_place (j.cells + 1)) ≡ slice_index d (cell_place (j.cells + 1))
      after = subst (λ (k : ℕ). slice_index c k ≡ slice_index d k) (omega arith) (same.same (bytes_of_cell - 1) (omega arith))

  pub copy_kept : Agrees bytes_of_slot_body c (other_of j + 1) d (other_of j + 1) → retained_at j.wide (other_of j) c ≡ retained_at j.wide (other_of j) d
      → HoldsCopy j d → HoldsCopy j c
  copy_kept same state holds = record {
    all_cells = holds.all_cells;
    copy_number = number-agrees 8 c (other_of j + 1) d (other_of j + 1) (sooner bytes_of_slot_body c (other_of j + 1) d (other_of j + 1) 8 same (omega arith)) ∙
        holds.copy_number;
    copy = state ∙ holds.copy;
  }

  pub torn_keeps : j.cells ≤ most_cells → IsImage j c
  torn_keeps few = record {
    size = let s = image.size in let l = longer in omega (arith, s, l);
    mark = bytes-agree 8 c 0 d 0 (sooner 40 c 0 d 0 8 front_same (omega arith)) ∙ image.mark;
    site = bytes-agree 32 c 8 d 8 (part 40 c 0 d 0 8 32 front_same (omega arith)) ∙ image.site;
    log = log_kept j.log refl image.log;
    gate = first_byte bytes_of_slot c (chosen_of j) d (chosen_of j) slot_same (omega arith) ∙ image.gate;
    number = let e = slot_numbers in let m = image.number in omega (arith, e, m);
    small =
        subst AreCounters
        (sym (numbers-agree c (chosen_of j + counters_place) d (chosen_of j + counters_place) (part bytes_of_slot c (chosen_of j) d (chosen_of j) counters_place 32 slot_same (omega arith))))
        image.small;
    counts =
        λ i less. is_next-agrees _ c (cell_place i) d (cell_place i) (cell_same few i less) ∙ ap (λ (k : ℕ). is_next (k + 1 + i) (cell_place i) d)
        slot_numbers ∙ image.counts i less;
    form = λ i less. wrong_in_cell-same j.wide c d (cell_place i) (cell_body c (cell_place i) d (cell_place i) (cell_same few i less)) ∙ image.form i
        less;
    state =
        ap (λ changes. changed_by changes (retained_at j.wide (chosen_of j) c))
        (changes-same c d j.cells (cell_same few) (λ i less. (cell_in_form j.wide (cell_place i) d (image.form i less)).few))
        ∙ ap (changed_by (changes_of_cells d j.cells)) (retained-agrees j.wide c (chosen_of j) d (chosen_of j) slot_same)
        ∙ image.state;
    next = λ may free. next_kept may free j.cell_may_be_open (spares.next_apart may free) (image.next may free);
    other = other_kept j.slot_may_be_open spares.other_apart image.other;
  }
    where
      front_same : Agrees 40 c 0 d 0
      front_same = unharmed at n 0 40 d c torn (let s = image.size in omega (arith, s)) (inl (let f = spares.front in omega (arith, f)))

      gate_same : 41 ≤ at → slice_index c log_gate ≡ slice_index d log_gate
      gate_same past = byte_unharmed at n log_gate d c torn (let s = image.size in omega (arith, s)) (inl (omega (arith, past)))

      not_ready : (log : LogGate) → j.log ≡ log → (Ready ≡ log → ⊥) → 41 ≤ at
      not_ready log is other = go spares.log_gate_apart
        where
          go : (j.log ≡ Ready) ⊎ (41 ≤ at) → 41 ≤ at
          go (inl ready) = absurd (other (sym ready ∙ is))
          go (inr past) = past

      log_kept : (log : LogGate) → j.log ≡ log → HasLog log j.cells d → HasLog log j.cells c
      log_kept Shut is h = (λ one. h.0 (sym (gate_same (not_ready Shut is (λ e. cc))) ∙ one), h.1)
      log_kept Ready is h = (let l = longer in let w = h.0 in omega (arith, l, w), h.1)
      log_kept Open is h = (gate_same (not_ready Open is (λ e. cc)) ∙ h.0, let l = longer in let w = h.1 in omega (arith, l, w))

      next_kept : (may : MayCount j.log) → (free : j.cells < most_cells) → (b : Bool)
          → MatchBool b (Apart at n (next_of j + 1) bytes_of_cell) (Apart at n (next_of j) 1)
          → MatchBool b ((number_at 8 (next_of j + 1) d ≢ j.number + 1) ⊎ HoldsBatch j d) (slice_index d (next_of j) ≢ 1)
          → MatchBool b ((number_at 8 (next_of j + 1) c ≢ j.number + 1) ⊎ HoldsBatch j c) (slice_index c (next_of j) ≢ 1)
      next_kept may free true apart (inl other) =
          inl (λ same. other (sym (number-agrees 8 c (next_of j + 1) d (next_of j + 1) (sooner bytes_of_cell c (next_of j + 1) d (next_of j + 1) 8
          (unharmed at n (next_of j + 1) bytes_of_cell d c torn (let w = whole may in omega (arith, w, free)) apart) (omega arith))) ∙ same))
      next_kept may free true apart (inr holds) =
          inr (batch_kept may free (unharmed at n (next_of j + 1) bytes_of_cell d c torn (let w = whole may in omega (arith, w, free)) apart) holds)
      next_kept may free false apart shut =
          λ one. shut (sym (byte_unharmed at n (next_of j) d c torn (let w = whole may in omega (arith, w, free)) apart) ∙ one)

      other_size : other_of j + bytes_of_slot ≤ length d
      other_size = let s = image.size in let o = other_place j.second in omega (arith, s, o)

      other_body : Apart at n (other_of j + 1) bytes_of_slot_body → Agrees bytes_of_slot_body c (other_of j + 1) d (other_of j + 1)
      other_body apart = unharmed at n (other_of j + 1) bytes_of_slot_body d c torn (let s = other_size in omega (arith, s)) apart

      other_number : Apart at n (other_of j + 1) bytes_of_slot_body → slot_number (other_of j) c ≡ slot_number (other_of j) d
      other_number apart =
          number-agrees 8 c (other_of j + 1) d (other_of j + 1) (sooner bytes_of_slot_body c (other_of j + 1) d (other_of j + 1) 8 (other_body apart) (omega arith))

      other_kept : (b : Bool) → MatchBool b (Apart at n (other_of j + 1) bytes_of_slot_body) (Apart at n (other_of j) 1)
          → MatchBool b (IsBehind j.second (slot_number (other_of j) d) (slot_number (chosen_of j) d) ⊎ ((j.moving ≡ true) × HoldsCopy j d))
          (slice_index d (other_of j) ≢ 1)
          → MatchBool b (IsBehind j.second (slot_number (other_of j) c) (slot_number (chosen_of j) c) ⊎ ((j.moving ≡ true) × HoldsCopy j c))
          (slice_index c (other_of j) ≢ 1)
      other_kept true apart (inl behind) = inl (let e = other_number apart in let f = slot_numbers in rw (e, f) behind)
      other_kept true apart (inr holds) =
          inr (holds.0, copy_kept (other_body apart) (retained-body j.wide c (other_of j) d (other_of j) (other_body apart)) holds.1)
      other_kept false apart shut = λ one. shut (sym (byte_unharmed at n (other_of j) d c torn (let s = other_size in omega (arith, s)) apart) ∙ one)
