-- What an image of a journal is after a step of it.
use Rattle.std.proofs.Common.{inl, inr, ◌≡◌, ◌≢◌, ◌⊎◌, ◌+◌, ◌<◌, ◌≤◌, ℕ, Bool, true, false, List, [], ◌∷◌, slice_index, length, refl, sym, ap, ◌∙◌, subst, arith, add-zero}
use Rattle.std.specs.Prelude.{IsTrue, ◌↔◌, None, not, nat_le, MatchBool}
use Rattle.std.proofs.lemmas.Bool.Decides.{leb_tells}
use Rattle.panel_edges.specs.Disks.{Holds}
use Rattle.site_types.specs.Changes.{AreCounters, changed_by}
use Rattle.site_types.proofs.Changes.{changed_by-append}
use Rattle.site_types.specs.declared.retained.Retained.{Retained}
use Rattle.retained_journal.specs.declared.journal.Journal.{Journal}
use Rattle.retained_journal.specs.declared.log_gate.LogGate.{LogGate}
use Rattle.retained_journal.specs.declared.log_gate.LogGate.TheVariants.{Shut, Ready, Open}
use Rattle.retained_journal.specs.Fields.{number_at}
use Rattle.retained_journal.specs.Places.{cell_place, log_gate, slot_place, whole_bytes}
use Rattle.retained_journal.specs.Places.{bytes_of_cell, most_cells}
use Rattle.retained_journal.proofs.Lengths.{bytes_of_slot_body, bytes_of_changes}
use Rattle.retained_journal.specs.Slots.{retained_at, slot_number}
use Rattle.retained_journal.specs.Cells.{cell_changes, changes_of_cells, is_next, wrong_in_cell}
use Rattle.retained_journal.specs.Images.{HasLog, HasNext, HasOther, HoldsBatch, HoldsCopy, IsBehind, IsImage, MayCount, chosen_of, next_of, other_of}
use Rattle.retained_journal.specs.Images.{after_append, after_move}
use Rattle.retained_journal.proofs.Images.{is_next_both, next_number_is}
use Rattle.retained_journal.proofs.Replaying.{cells-more, cells-none}
use Rattle.retained_journal.specs.Fields.{Agrees}
use Rattle.retained_journal.proofs.Agreement.{number-agrees, retained-body, sooner}
use Rattle.retained_journal.proofs.CellAgreement.{cell_changes-body, wrong_in_cell-same}
use Rattle.retained_journal.proofs.Forms.{cell_in_form}
use Rattle.retained_journal.proofs.SparedBytes.{slots_apart}
use Rattle.retained_journal.proofs.Torn.{byte_unharmed, torn_holds, unharmed}

-- a byte that was written
pub byte_now : (at byte : ℕ) (d c : List ℕ) → Holds at (byte ∷ []) d c → slice_index c at ≡ byte
byte_now at byte d c holds = subst (λ (i : ℕ). slice_index c i ≡ byte) (add-zero at) (holds.inside 0 (omega arith))

not_one_zero : (n : ℕ) → n ≡ 0 → n ≢ 1
not_one_zero n zero' one = omega (arith, zero', one)

-- where cells may count the file is whole
long_enough : (log : LogGate) (cells : ℕ) (c : List ℕ) → HasLog log cells c → MayCount log → whole_bytes ≤ length c
long_enough Shut cells c h may = absurd may
long_enough Ready cells c h may = h.0
long_enough Open cells c h may = h.1

module _ (j : Journal) (c : List ℕ) (image : IsImage j c) where
  -- an image of the journal with other gates: of what an image has, only the log gate, the next cell and the other
  -- slot speak of them
  regated : (log : LogGate) (slot cell moving : Bool) → HasLog log j.cells c
      → (MayCount log → j.cells < most_cells → HasNext (record j { cell_may_be_open = cell }) c)
      → HasOther (record j { slot_may_be_open = slot; moving = moving }) c
      → IsImage (record j { log = log; slot_may_be_open = slot; cell_may_be_open = cell; moving = moving }) c
  regated log slot cell moving has_log next other = record {
    size = image.size;
    mark = image.mark;
    site = image.site;
    log = has_log;
    gate = image.gate;
    number = image.number;
    small = image.small;
    counts = image.counts;
    form = image.form;
    state = image.state;
    next = next;
    other = other;
  }

  pub other_shut : slice_index c (other_of j) ≡ 0 → IsImage (record j { slot_may_be_open = false }) c
  other_shut zero' = regated j.log false j.cell_may_be_open j.moving image.log image.next (not_one_zero _ zero')

  pub next_shut : (j.cells < most_cells → slice_index c (next_of j) ≢ 1) → IsImage (record j { cell_may_be_open = false }) c
  next_shut shut = regated j.log j.slot_may_be_open false j.moving image.log (λ may free. shut free) image.other

  pub log_opened : MayCount j.log → slice_index c log_gate ≡ 1 → IsImage (record j { log = Open }) c
  log_opened may one =
      regated Open j.slot_may_be_open j.cell_may_be_open j.moving (one, long_enough j.log j.cells c image.log may)
      (λ open' free. image.next may free) image.other

  pub cells_ready : j.log ≡ Shut → whole_bytes ≤ length c → slice_index c (cell_place 0) ≡ 0
      → IsImage (record j { log = Ready; cell_may_be_open = false }) c
  cells_ready shut long zero' =
      let none : j.cells ≡ 0 = (subst (λ log. HasLog log j.cells c) shut image.log).1 in
      regated Ready j.slot_may_be_open false j.moving (long, none)
      (λ may free. subst (λ (n : ℕ). slice_index c (cell_place n) ≢ 1) (sym none) (not_one_zero _ zero')) image.other

  pub other_may : j.moving ≡ true → HoldsCopy j c → IsImage (record j { slot_may_be_open = true }) c
  other_may moving holds = regated j.log true j.cell_may_be_open j.moving image.log image.next (inr (moving, holds))

  pub next_may : HoldsBatch j c → IsImage (record j { cell_may_be_open = true }) c
  next_may holds = regated j.log j.slot_may_be_open true j.moving image.log (λ may free. inr holds) image.other

  -- a move is begun
  pub move_begun : IsImage (record j { moving = true }) c
  move_begun =
      regated j.log j.slot_may_be_open j.cell_may_be_open true image.log image.next (other_kept j.slot_may_be_open image.other)
    where
      other_kept : (b : Bool)
          → MatchBool b (IsBehind j.second (slot_number (other_of j) c) (slot_number (chosen_of j) c) ⊎ ((j.moving ≡ true) × HoldsCopy j c))
          (slice_index c (other_of j) ≢ 1)
          → MatchBool b (IsBehind j.second (slot_number (other_of j) c) (slot_number (chosen_of j) c) ⊎ ((true ≡ true) × HoldsCopy j c))
          (slice_index c (other_of j) ≢ 1)
      other_kept true (inl behind) = inl behind
      other_kept true (inr copy) = inr (refl, copy.1)
      other_kept false shut = shut

  -- the state went to the other slot
  pub moved_over : HoldsCopy j c → slice_index c (other_of j) ≡ 1 → AreCounters j.kept.counters
      → IsImage (after_move j) c
  moved_over holds one counters = record {
    size = image.size;
    mark = image.mark;
    site = image.site;
    log = log_kept j.log image.log;
    gate = one;
    number = let n = holds.copy_number in omega (arith, n);
    small = subst (λ (s : Retained). AreCounters s.counters) (sym holds.copy) counters;
    counts = λ i less. absurd (omega (arith, less));
    form = λ i less. absurd (omega (arith, less));
    state = ap (λ changes. changed_by changes (retained_at j.wide (other_of j) c)) (cells-none c) ∙ holds.copy;
    next = λ may free. inl (λ same. let m = image.number in omega (arith, first, same, m, full));
    other = inl (behind j.second (let n = holds.copy_number in let m = image.number in omega (arith, n, m)));
  }
    where
      full : j.cells ≡ most_cells
      full = holds.all_cells

      first : number_at 8 (cell_place 0 + 1) c ≡ slot_number (chosen_of j) c + 1 + 0
      first = next_number_is _ (cell_place 0) c (image.counts 0 (omega (arith, full)))

      log_kept : (log : LogGate) → HasLog log j.cells c → HasLog log 0 c
      log_kept Shut h = absurd (let z = h.1 in omega (arith, z, full))
      log_kept Ready h = absurd (let z = h.1 in omega (arith, z, full))
      log_kept Open h = h

      behind : (b : Bool) → slot_number (slot_place b) c < slot_number (slot_place (not b)) c
          → IsBehind (not b) (slot_number (slot_place (not (not b))) c) (slot_number (slot_place (not b)) c)
      behind true less = omega (arith, less)
      behind false less = less

  -- the batch was appended
  pub appended : j.log ≡ Open → j.cells < most_cells → HoldsBatch j c → slice_index c (next_of j) ≡ 1
      → IsImage (after_append j) c
  appended open' free holds one = record {
    size = image.size;
    mark = image.mark;
    site = image.site;
    log = log_kept j.log open' image.log;
    gate = image.gate;
    number = let m = image.number in omega (arith, m);
    small = image.small;
    counts =
        λ i less. at_or_below (λ k. is_next (slot_number (chosen_of j) c + 1 + k) (cell_place k) c ≡ true) image.counts
        (is_next_both _ (next_of j) c one (holds.next_number ∙ numbers)) i less (leb_tells j.cells i);
    form = λ i less. at_or_below (λ k. wrong_in_cell j.wide (cell_place k) c ≡ None) image.form holds.form i less (leb_tells j.cells i);
    state =
        ap (λ changes. changed_by changes (retained_at j.wide (chosen_of j) c)) (cells-more c j.cells)
        ∙ changed_by-append (changes_of_cells c j.cells) (cell_changes (next_of j) c) (retained_at j.wide (chosen_of j) c)
        ∙ ap (changed_by (cell_changes (next_of j) c)) image.state
        ∙ ap (λ changes. changed_by changes j.kept) holds.changes;
    next = λ may free'. holds.after_shut;
    other = other_kept j.slot_may_be_open image.other;
  }
    where
      numbers : j.number + 1 ≡ slot_number (chosen_of j) c + 1 + j.cells
      numbers = let n = image.number in omega (arith, n)

      log_kept : (log : LogGate) → log ≡ Open → HasLog log j.cells c → HasLog log (j.cells + 1) c
      log_kept Shut is h = absurd (cc)
      log_kept Ready is h = absurd (cc)
      log_kept Open is h = h

      at_or_below : (P : ℕ → Type 0) → ((i : ℕ) → i < j.cells → P i) → P j.cells → (i : ℕ) → i < j.cells + 1
          → ((nat_le j.cells i ≡ true) × (j.cells ≤ i)) ⊎ ((nat_le j.cells i ≡ false) × (i < j.cells)) → P i
      at_or_below P before here i less (inl at) = subst P (let a = at.1 in omega (arith, a, less)) here
      at_or_below P before here i less (inr below) = before i below.1

      other_kept : (b : Bool)
          → MatchBool b (IsBehind j.second (slot_number (other_of j) c) (slot_number (chosen_of j) c) ⊎ ((j.moving ≡ true) × HoldsCopy j c))
          (slice_index c (other_of j) ≢ 1)
          → MatchBool b (IsBehind j.second (slot_number (other_of j) c) (slot_number (chosen_of j) c)
          ⊎ ((j.moving ≡ true)
          × HoldsCopy (after_append j) c)) (slice_index c (other_of j) ≢ 1)
      other_kept true (inl behind) = inl behind
      other_kept true (inr copy) = absurd (let f = copy.1.all_cells in omega (arith, f, free))
      other_kept false shut = shut

-- the gate of the next cell is shut already
pub shut_already : (flag result : Bool) (Free P Q : Type 0) → (IsTrue result ↔ (Free × (flag ≡ true))) → result ≡ false → Free → MatchBool flag P Q
    → Q
shut_already false result Free P Q means no' free next = next
shut_already true result Free P Q means no' free next = absurd (let t = means.1 (free, refl) in cc)

-- what was written behind a gate stands when the gate was written
pub copy_after : (j : Journal) (d c : List ℕ) (byte : ℕ) → IsImage j d → Holds (other_of j) (byte ∷ []) d c → HoldsCopy j d → HoldsCopy j c
copy_after j d c byte image holds copy = record {
  all_cells = copy.all_cells;
  copy_number = number-agrees 8 c (other_of j + 1) d (other_of j + 1) (sooner bytes_of_slot_body c (other_of j + 1) d (other_of j + 1) 8 body (omega arith)) ∙
      copy.copy_number;
  copy = retained-body j.wide c (other_of j) d (other_of j) body ∙ copy.copy;
}
  where
    body : Agrees bytes_of_slot_body c (other_of j + 1) d (other_of j + 1)
    body = unharmed (other_of j) 1 (other_of j + 1) bytes_of_slot_body d c (torn_holds (other_of j) (byte ∷ []) d c holds) (let s = image.size in let h =
        (slots_apart j.second).high in omega (arith, s, h)) (inr (omega arith))

pub batch_after : (j : Journal) (d c : List ℕ) (byte : ℕ) → IsImage j d → MayCount j.log → j.cells < most_cells → Holds (next_of j) (byte ∷ []) d c
    → HoldsBatch j d → HoldsBatch j c
batch_after j d c byte image may free holds batch = record {
  next_number =
      number-agrees 8 c (next_of j + 1) d (next_of j + 1) (sooner bytes_of_cell c (next_of j + 1) d (next_of j + 1) 8 body (omega arith)) ∙ batch.next_number;
  form = wrong_in_cell-same j.wide c d (next_of j) (behind 9 bytes_of_changes (omega arith) (omega arith)) ∙ batch.form;
  changes =
      cell_changes-body c (next_of j) d (next_of j) (behind 9 bytes_of_changes (omega arith) (omega arith)) (cell_in_form j.wide (next_of j) d batch.form).few ∙
      batch.changes;
  after_shut = λ one. batch.after_shut (sym after ∙ one);
}
  where
    long : whole_bytes ≤ length d
    long = long_enough j.log j.cells d image.log may

    body : Agrees bytes_of_cell c (next_of j + 1) d (next_of j + 1)
    body = unharmed (next_of j) 1 (next_of j + 1) bytes_of_cell d c (torn_holds (next_of j) (byte ∷ []) d c holds) (let l = long in
        omega (arith, l, free)) (inr (omega arith))

    behind : (k m : ℕ) → 1 ≤ k → k + m ≤ bytes_of_cell + 1 → Agrees m c (next_of j + k) d (next_of j + k)
    behind k m some fits = unharmed (next_of j) 1 (next_of j + k) m d c (torn_holds (next_of j) (byte ∷ []) d c holds) (let l = long in
        omega (arith, l, free, fits)) (inr (omega (arith, some)))

    after : slice_index c (cell_place (j.cells + 1)) ≡ slice_index d (cell_place (j.cells + 1))
    after = byte_unharmed (next_of j) 1 (cell_place (j.cells + 1)) d c (torn_holds (next_of j) (byte ∷ []) d c holds) (let l = long in
        omega (arith, l, free)) (inr (omega arith))
