-- A new file opens to its state.
use Rattle.std.proofs.Common.{◌≡◌, ◌+◌, ◌*◌, ◌<◌, ◌==◌, ◌≤◌, ◌⊎◌, ℕ, zero, suc, replicate, Bool, true, false, List, [], ◌∷◌, slice_index, length, inl, inr, refl, sym, ap, ◌∙◌, subst, arith, zero-add}
use Rattle.std.specs.Prelude.{Option, Some, None, IfSome, if◌then◌else◌, nat_lt, bytes_eq}
use Rattle.std.proofs.lemmas.Bool.Decides.{nat_tests}
use Rattle.std.proofs.lemmas.Slice.Eq.{bytes_eq-Decides}
use Rattle.std.proofs.lemmas.List.FromFn.{fill_by_all, get_or-map-range_with_len}
use Rattle.std.proofs.lemmas.Grind.{same_number_lists}
use Rattle.panel_edges.specs.Disks.{Becomes, Holds}
use Rattle.site_types.specs.Changes.{AreCounters}
use Rattle.site_types.specs.Limits.{greatest_count}
use Rattle.site_types.specs.declared.retained.Retained.{Retained}
use Rattle.retained_journal.specs.declared.open_refusal.OpenRefusal.{OpenRefusal}
use Rattle.retained_journal.specs.Fields.{bytes_at, first_in, number_at, numbers_at}
use Rattle.retained_journal.specs.Places.{log_gate, slot_place}
use Rattle.retained_journal.specs.Places.{bytes_of_slot, first_slot_end, second_slot, first_slot}
use Rattle.retained_journal.specs.Places.{counters_place}
use Rattle.retained_journal.specs.Slots.{HasNarrowPoints, counters_at}
use Rattle.retained_journal.specs.Opening.{Empty, Opens, refused_or, change_out_of_form, counted, counter_too_great}
use Rattle.retained_journal.specs.Opening.{cut_short, damaged, first_of, front_refusal, great_counter, is_second}
use Rattle.retained_journal.specs.Opening.{kept_in, no_open_slot, not_a_journal, number_too_great, opened, other_site}
use Rattle.retained_journal.specs.NewFiles.{BecomesNew, IsBesideSlot, IsNewFile}
use Rattle.retained_journal.proofs.Finding.{found-none, none_below}
use Rattle.retained_journal.proofs.FrontAgreement.{six}
use Rattle.retained_journal.proofs.Replaying.{cells-none}

pub bytes_eq_same : (xs : List ℕ) → bytes_eq xs xs ≡ true
bytes_eq_same xs = (bytes_eq-Decides xs xs).1 refl

-- in a list of zeros each is 0, also behind the end
pub zeros_everywhere : (n place : ℕ) → slice_index (replicate n 0) place ≡ 0
zeros_everywhere zero place = refl
zeros_everywhere (suc n) zero = refl
zeros_everywhere (suc n) (suc place) = zeros_everywhere n place

-- what stands beside slot A was zero and stays
pub zeros_beside : (before file : List ℕ)
    → ((place : ℕ) → 40 ≤ place → (place < first_slot) ⊎ (first_slot_end ≤ place) → slice_index file place ≡ slice_index before place)
    → ((place : ℕ) → slice_index before place ≡ 0) → (place : ℕ) → IsBesideSlot place → slice_index file place ≡ 0
zeros_beside before file same zero' place (inl between) = same place between.0 (inl between.1) ∙ zero' place
zeros_beside before file same zero' place (inr behind) = same place (omega (arith, behind)) (inr behind) ∙ zero' place

pub beside_slot : (place size : ℕ) → size ≡ bytes_of_slot → (place < first_slot) ⊎ (first_slot_end ≤ place) → (place < first_slot) ⊎ (first_slot + size ≤ place)
beside_slot place size is (inl before) = inl before
beside_slot place size is (inr behind) = inr (omega (arith, is, behind))

-- what is written over an empty file is all of it
pub written_whole : (bytes old new : List ℕ) → length old ≡ 0 → Holds 0 bytes old new → new ≡ bytes
written_whole bytes old new empty holds =
    let size : length new ≡ length bytes = let s = holds.size in omega (arith, s, empty) in
    same_number_lists new bytes size
    (λ k less. subst (λ (i : ℕ). slice_index new i ≡ slice_index bytes k) (zero-add k) (holds.inside k (omega (arith, size, less))))

-- so an empty file becomes a new one
pub becomes_new : (digest : List ℕ) (state : Retained) (front : List ℕ) (old new : Option (List ℕ)) → IsNewFile digest state front
    → IfSome old (λ file. length file ≡ 0) → Becomes (Holds 0 front) old new → Becomes (BecomesNew digest state) old new
becomes_new digest state front None new is empty wrote = tt
becomes_new digest state front (Some old) None is empty wrote = absurd wrote
becomes_new digest state front (Some old) (Some new) is empty wrote = record {
  empty = empty;
  made = subst (λ (file : List ℕ). IsNewFile digest state file) (sym (written_whole front old new empty wrote)) is;
}

pub bytes_at-whole : (n : ℕ) (file : List ℕ) → length file ≡ n → bytes_at n 0 file ≡ file
unfolding bytes_at
bytes_at-whole n file size = sym (fill_by_all (λ k. slice_index file (0 + k)) file n 0 size (λ k less. ap (slice_index file) (sym (zero-add k))))

pub counter_of : (at : ℕ) (file : List ℕ) (panel : ℕ) → panel < 8 → slice_index (numbers_at at file) panel ≡ number_at 4 (at + 4 * panel) file
unfolding numbers_at
counter_of at file panel less = get_or-map-range_with_len (λ k. number_at 4 (at + 4 * k) file) 0 8 panel panel 0 less (zero-add panel)

-- counters that are small enough
pub no_great_counter : (at : ℕ) (file : List ℕ) → AreCounters (counters_at at file) → first_in (great_counter at file) 8 ≡ None
no_great_counter at file small = none_below (great_counter at file) 8 (λ panel less. go panel less)
  where
    go : (panel : ℕ) → panel < 8 → great_counter at file panel ≡ None
    go panel less =
        let le = small panel in
        let e = counter_of (at + counters_place) file panel less in
        let test : nat_lt greatest_count (number_at 4 (at + counters_place + 4 * panel) file) ≡ false =
        subst (λ (n : ℕ). nat_lt greatest_count n ≡ false) e (grind (arith, nat_tests)) in
        rw test refl

-- a file that no cause refuses
pub opens_with : (len : ℕ) → 0 < len → (front cells : Option OpenRefusal) (kept : Retained) → front ≡ None → cells ≡ None
    → (if len == 0 then Empty else refused_or (first_of (front ∷ cells ∷ [])) kept) ≡ Opens kept
opens_with len some front cells kept one two' =
    let test : (len == 0) ≡ false = grind (arith, nat_tests) in
    rw (test, one, two') refl

pub log_is_shut : (digest : List ℕ) (state : Retained) (file : List ℕ) → IsNewFile digest state file → slice_index file log_gate ≡ 0
log_is_shut digest state file is = is.zeros 40 (inl (omega arith, omega arith))

pub slot_b_is_shut : (digest : List ℕ) (state : Retained) (file : List ℕ) → IsNewFile digest state file → slice_index file second_slot ≡ 0
slot_b_is_shut digest state file is = is.zeros second_slot (inr (omega arith))

module _ (digest : List ℕ) (state : Retained) (file : List ℕ) (is : IsNewFile digest state file) where
  pub new_second : is_second file ≡ false
  new_second = let shut = slot_b_is_shut digest state file is in rw shut refl

  pub new_counted : counted file ≡ 0
  new_counted = let shut = log_is_shut digest state file is in rw shut refl

  front_none : (wide : Bool) → HasNarrowPoints wide state.points → AreCounters state.counters → front_refusal digest (length file) file ≡ None
  front_none wide narrow counters =
      let mark : not_a_journal file ≡ None = rw is.mark refl in
      let shut = log_is_shut digest state file is in
      let cut : cut_short (length file) file ≡ None = rw (is.size, shut) refl in
      let site : other_site digest file ≡ None = same_site in
      let gates : no_open_slot file ≡ None = rw is.slot_open refl in
      let second = new_second in
      let number : number_too_great first_slot file ≡ None = rw is.number refl in
      let counter : counter_too_great first_slot file ≡ None =
      ap (damaged file) (no_great_counter first_slot file (subst (λ (s : Retained). AreCounters s.counters) (sym (is.holds wide narrow)) counters)) in
      six _ _ _ _ _ _ None None None None None None mark cut site gates (ap (λ b. number_too_great (slot_place b) file) second ∙ number)
      (ap (λ b. counter_too_great (slot_place b) file) second ∙ counter)
    where
      same_site : other_site digest file ≡ None
      same_site = let e = is.digest_kept in let t = bytes_eq_same digest in rw (e, t) refl

  pub new_opens : (wide : Bool) → HasNarrowPoints wide state.points → AreCounters state.counters → opened wide digest file ≡ Opens state
  new_opens wide narrow counters =
      let size = is.size in
      let front = front_none wide narrow counters in
      let cells = new_counted in
      let none = cells-none file in
      let second = new_second in
      let holds = is.holds wide narrow in
      let form : change_out_of_form wide file ≡ None = rw cells (ap (damaged file) (found-none _)) in
      let kept : kept_in wide file ≡ state = rw (cells, none, second) holds in
      opens_with (length file) (omega (arith, size)) (front_refusal digest (length file) file) (change_out_of_form wide file) (kept_in wide file)
      front form ∙ ap Opens kept
