-- What older files open to.
use Rattle.std.proofs.Common.{inl, inr, ◌≡◌, ◌≢◌, ◌+◌, ◌*◌, ◌<◌, ◌≤◌, ◌==◌, ℕ, zero, suc, Bool, true, false, List, [], ◌∷◌, slice_index, length, refl, sym, ap, ◌∙◌, arith}
use Rattle.std.specs.Prelude.{Option, Some, None, if◌then◌else◌}
use Rattle.site_types.specs.Changes.{changed, changed_by, nothing_retained}
use Rattle.site_types.specs.declared.change.Change.{Change}
use Rattle.site_types.specs.declared.change.Change.TheVariants.{Point, Zone, Output, Delays, Count, Clear, Test}
use Rattle.site_types.specs.declared.retained.Retained.{Retained}
use Rattle.site_types.proofs.Changes.{changed_by-append}
use Rattle.retained_journal.specs.declared.open_refusal.OpenRefusal.{OpenRefusal}
use Rattle.retained_journal.specs.Cells.{cell_count, cell_changes, change_at, change_by, changes_at, changes_of_cells, is_next, wrong_in_cell, wrong_in_change}
use Rattle.retained_journal.specs.Fields.{number_at, numbers_at}
use Rattle.retained_journal.specs.OlderFiles.{IsWithoutCells, OpensToItsSlot, OpensWithoutTests}
use Rattle.retained_journal.specs.Opening.{Empty, Opens, change_out_of_form, chosen_place, counted, front_refusal, is_open, kept_in, refusal_of, refused_or}
use Rattle.retained_journal.specs.Places.{cell_place, log_gate}
use Rattle.retained_journal.specs.Places.{most_cells}
use Rattle.retained_journal.specs.Places.{tests_place}
use Rattle.retained_journal.specs.Slots.{retained_at, slot_number}
use Rattle.retained_journal.proofs.Agreement.{numbers-agree}
use Rattle.retained_journal.proofs.Finding.{none_each}
use Rattle.retained_journal.proofs.Forms.{cell_in_form, changes_at-more, kind_at, made_none}
use Rattle.retained_journal.proofs.ReadImages.{both_none, none_damaged}
use Rattle.retained_journal.proofs.Replaying.{cells-none, run_is}

-- a file that opens isn't refused, and opens to what it keeps
opens_kept : (b : Bool) (refusal : Option OpenRefusal) (kept state : Retained) → (if b then Empty else refused_or refusal kept) ≡ Opens state
    → (refusal ≡ None) × (kept ≡ state)
opens_kept true refusal kept state is = absurd (cc)
opens_kept false None kept state is = (refl, cc)
opens_kept false (Some refusal) kept state is = absurd (cc)

none_either_way : (b : Bool) (n : ℕ) → n ≡ 0 → (if b then n else 0) ≡ 0
none_either_way true n is = is
none_either_way false n is = refl

-- no cell counts in a file without cells
none_counted : (file : List ℕ) → IsWithoutCells file → counted file ≡ 0
none_counted file (inl no_log) = let shut = no_log 40 (omega arith) (omega arith) in rw shut refl
none_counted file (inr no_gates) =
    none_either_way (is_open log_gate file) _
    (run_is (λ i. is_next (slot_number (chosen_place file) file + 1 + i) (cell_place i) file) most_cells 0 (λ i less. absurd (omega (arith, less)))
    (inr (omega arith, let shut = no_gates 0 (omega arith) in rw shut refl)))

pub opens_to_its_slot : OpensToItsSlot
opens_to_its_slot wide digest file state without opens =
    let kept = opens_kept (length file == 0) (refusal_of wide digest file) (kept_in wide file) state opens in
    let cells = none_counted file without in
    let none = cells-none file in
    sym kept.1 ∙ rw (cells, none) refl

-- a change of something else than a zone in test
abbrev IsOther : Change → Type 0
IsOther (Test panel number on) = ⊥
IsOther _ = Unit {0}

tests_stay : (change : Change) (kept : Retained) → IsOther change → (changed change kept).tests ≡ kept.tests
tests_stay (Point panel line address off) kept other = refl
tests_stay (Zone panel number off) kept other = refl
tests_stay (Output panel number off) kept other = refl
tests_stay (Delays panel off) kept other = refl
tests_stay (Count panel entries) kept other = refl
tests_stay (Clear panel) kept other = refl
tests_stay (Test panel number on) kept other = absurd other

other_kind : (kind panel line number last entries : ℕ) → 1 ≤ kind → kind ≤ 7 → kind ≢ 7 → IsOther (change_by kind panel line number last entries)
other_kind zero panel line number last entries low high not_test = absurd (omega (arith, low))
other_kind (suc zero) panel line number last entries low high not_test = tt
other_kind (suc (suc zero)) panel line number last entries low high not_test = tt
other_kind (suc (suc (suc zero))) panel line number last entries low high not_test = tt
other_kind (suc (suc (suc (suc zero)))) panel line number last entries low high not_test = tt
other_kind (suc (suc (suc (suc (suc zero))))) panel line number last entries low high not_test = tt
other_kind (suc (suc (suc (suc (suc (suc zero)))))) panel line number last entries low high not_test = tt
other_kind (suc (suc (suc (suc (suc (suc (suc zero))))))) panel line number last entries low high not_test = absurd (not_test refl)
other_kind (suc (suc (suc (suc (suc (suc (suc (suc kind)))))))) panel line number last entries low high not_test = absurd (omega (arith, high))

other_at : (wide : Bool) (at : ℕ) (file : List ℕ) → wrong_in_change wide at file ≡ None → slice_index file at ≢ 7 → IsOther (change_at at file)
unfolding change_at
other_at wide at file none not_test = let kind = kind_at wide at file none in other_kind (slice_index file at) _ _ _ _ _ kind.0 kind.1 not_test

-- the changes of a cell
tests_of_cell : (count at : ℕ) (file : List ℕ) (kept : Retained) → ((k : ℕ) → k < count → IsOther (change_at (at + 8 * k) file))
    → (changed_by (changes_at count at file) kept).tests ≡ kept.tests
tests_of_cell zero at file kept other = sym (ap (λ (r : Retained). r.tests) (made_none at file kept))
tests_of_cell (suc n) at file kept other =
    let before = tests_of_cell n at file kept (λ k less. other k (omega (arith, less))) in
    ap (λ (m : ℕ). (changed_by (changes_at m at file) kept).tests) add-one'
    ∙ ap (λ (changes : List Change). (changed_by changes kept).tests) (changes_at-more n at file)
    ∙ ap (λ (r : Retained). r.tests) (changed_by-append (changes_at n at file) (change_at (at + 8 * n) file ∷ []) kept)
    ∙ tests_stay (change_at (at + 8 * n) file) (changed_by (changes_at n at file) kept) (other n (omega arith))
    ∙ before
  where
    add-one' : suc n ≡ n + 1
    add-one' = omega arith

-- the changes of the first cells
tests_of_cells : (file : List ℕ) (n : ℕ) (kept : Retained)
    → ((cell : ℕ) → cell < n → (k : ℕ) → k < cell_count (cell_place cell) file → IsOther (change_at (cell_place cell + 10 + 8 * k) file))
    → (changed_by (changes_of_cells file n) kept).tests ≡ kept.tests
unfolding changes_of_cells
tests_of_cells file zero kept other = refl
tests_of_cells file (suc n) kept other =
    ap (λ (r : Retained). r.tests) (changed_by-append (changes_of_cells file n) (cell_changes (cell_place n) file) kept)
    ∙ tests_of_cell (cell_count (cell_place n) file) (cell_place n + 10) file (changed_by (changes_of_cells file n) kept) (other n (omega arith))
    ∙ tests_of_cells file n kept (λ cell less. other cell (omega (arith, less)))

no_numbers : numbers_at 0 [] ≡ nothing_retained.tests
unfolding numbers_at number_at
no_numbers = refl

pub opens_without_tests : OpensWithoutTests
opens_without_tests wide digest file state no_bytes no_change opens =
    let kept = opens_kept (length file == 0) (refusal_of wide digest file) (kept_in wide file) state opens in
    let form =
    none_each (λ i. wrong_in_cell wide (cell_place i) file) (counted file)
    (none_damaged file _ (both_none (front_refusal digest (length file) file) (change_out_of_form wide file) kept.0).1) in
    ap (λ (r : Retained). r.tests) (sym kept.1)
    ∙ tests_of_cells file (counted file) (retained_at wide (chosen_place file) file)
    (λ cell less k few. other_at wide (cell_place cell + 10 + 8 * k) file ((cell_in_form wide (cell_place cell) file (form cell less)).each k few)
    (no_change cell k less few))
    ∙ numbers-agree file (chosen_place file + tests_place) [] 0 (record { same = no_bytes })
    ∙ no_numbers
