-- What a cell reads as where its bytes are the same, at the same place or at another.
use Rattle.std.proofs.Common.{subst, ◌≡◌, ◌+◌, ◌*◌, ◌<◌, ◌≤◌, ℕ, zero, suc, Bool, true, false, List, slice_index, refl, sym, ap, ◌∙◌, arith, zero-add}
use Rattle.std.specs.Prelude.{Option, Some, None, if◌then◌else◌}
use Rattle.retained_journal.specs.Fields.{Agrees, first_in, is_within, or_else}
use Rattle.retained_journal.specs.Places.{most_changes}
use Rattle.retained_journal.specs.Places.{bytes_of_cell}
use Rattle.retained_journal.proofs.Lengths.{bytes_of_changes}
use Rattle.retained_journal.specs.Cells.{cell_changes, cell_count, change_at, changes_at, is_in_form, is_next, wrong_byte, wrong_in_cell, wrong_in_change}
use Rattle.retained_journal.proofs.Agreement.{sooner, first_byte, map-same, number-agrees, part}
use Rattle.retained_journal.proofs.Forms.{within, wrong_change, wrong_count}

pub is_next-agrees : (number : ℕ) (file : List ℕ) (at : ℕ) (other : List ℕ) (from : ℕ) → Agrees bytes_of_cell file at other from
    → is_next number at file ≡ is_next number from other
is_next-agrees number file at other from agrees =
    let gate = first_byte bytes_of_cell file at other from agrees (omega arith) in
    let same = number-agrees 8 file (at + 1) other (from + 1) (part bytes_of_cell file at other from 1 8 agrees (omega arith)) in
    rw (gate, same) refl

pub change_at-agrees : (file : List ℕ) (at : ℕ) (other : List ℕ) (from : ℕ) → Agrees 8 file at other from → change_at at file ≡ change_at from other
unfolding change_at
change_at-agrees file at other from agrees =
    let b0 = first_byte 8 file at other from agrees (omega arith) in
    let b1 = agrees.same 1 (omega arith) in
    let b2 = agrees.same 2 (omega arith) in
    let b3 = agrees.same 3 (omega arith) in
    let b7 = agrees.same 7 (omega arith) in
    let n = number-agrees 4 file (at + 4) other (from + 4) (part 8 file at other from 4 4 agrees (omega arith)) in
    rw (b0, b1, b2, b3, b7, n) refl

pub changes_at-agree : (count : ℕ) (file : List ℕ) (at : ℕ) (other : List ℕ) (from : ℕ) → Agrees (8 * count) file at other from
    → changes_at count at file ≡ changes_at count from other
unfolding changes_at
changes_at-agree count file at other from agrees =
    map-same (λ k. change_at (at + 8 * k) file) (λ k. change_at (from + 8 * k) other) 0 count
    (λ k low high. change_at-agrees file (at + 8 * k) other (from + 8 * k) (part (8 * count) file at other from (8 * k) 8 agrees (omega arith)))

-- what stands in a cell behind its number: the number of changes and the changes
pub cell_body : (file : List ℕ) (at : ℕ) (other : List ℕ) (from : ℕ) → Agrees bytes_of_cell file at other from → Agrees bytes_of_changes file (at + 9) other (from + 9)
cell_body file at other from agrees = part bytes_of_cell file at other from 9 bytes_of_changes agrees (omega arith)

behind_count : (file : List ℕ) (at : ℕ) (other : List ℕ) (from : ℕ) → Agrees bytes_of_changes file (at + 9) other (from + 9)
    → Agrees 576 file (at + 10) other (from + 10)
behind_count file at other from agrees = record {
  same =
      λ i less. subst (λ (k : ℕ). slice_index file k ≡ slice_index other (from + 10 + i)) (omega arith)
      (subst (λ (k : ℕ). slice_index file (at + 9 + (1 + i)) ≡ slice_index other k) (omega arith) (agrees.same (1 + i) (omega arith)));
}

pub cell_changes-body : (file : List ℕ) (at : ℕ) (other : List ℕ) (from : ℕ) → Agrees bytes_of_changes file (at + 9) other (from + 9) → cell_count from other ≤ most_changes
    → cell_changes at file ≡ cell_changes from other
cell_changes-body file at other from agrees few =
    let count : cell_count at file ≡ cell_count from other = first_byte bytes_of_changes file (at + 9) other (from + 9) agrees (omega arith) in
    rw count
    (changes_at-agree (cell_count from other) file (at + 10) other (from + 10)
    (sooner 576 file (at + 10) other (from + 10) (8 * cell_count from other) (behind_count file at other from agrees) (omega arith)))

pub cell_changes-agree : (file : List ℕ) (at : ℕ) (other : List ℕ) (from : ℕ) → Agrees bytes_of_cell file at other from → cell_count from other ≤ most_changes
    → cell_changes at file ≡ cell_changes from other
cell_changes-agree file at other from agrees few = cell_changes-body file at other from (cell_body file at other from agrees) few

-- a place that is found, moved by a distance
abbrev pub moved : ℕ → Option ℕ → Option ℕ
moved d None = None
moved d (Some place) = Some (d + place)

pub moved-zero : (found : Option ℕ) → moved 0 found ≡ found
moved-zero None = refl
moved-zero (Some place) = ap Some (zero-add place)

or_else-moved : (d : ℕ) (a b : Option ℕ) → or_else (moved d a) (moved d b) ≡ moved d (or_else a b)
or_else-moved d None b = refl
or_else-moved d (Some x) b = refl

first_in-moved : (d n : ℕ) (find other : ℕ → Option ℕ) → ((i : ℕ) → i < n → find i ≡ moved d (other i)) → first_in find n ≡ moved d (first_in other n)
unfolding first_in
first_in-moved d zero find other same = refl
first_in-moved d (suc n) find other same =
    let before = first_in-moved d n find other (λ i less. same i (omega arith)) in
    let here = same n (omega arith) in
    rw (before, here) (or_else-moved d (first_in other n) (other n))

wrong_byte-moved : (wide : Bool) (d : ℕ) (file : List ℕ) (at : ℕ) (other : List ℕ) (from : ℕ) → at ≡ d + from → Agrees 8 file at other from
    → (place : ℕ) → place < 8 → wrong_byte wide at file place ≡ moved d (wrong_byte wide from other place)
wrong_byte-moved wide d file at other from distance agrees place less =
    let kind = first_byte 8 file at other from agrees (omega arith) in
    let byte = agrees.same place less in
    rw (kind, byte) (go (is_in_form wide (slice_index other from) place (slice_index other (from + place))))
  where
    go : (b : Bool) → (if b then None else Some (at + place)) ≡ moved d (if b then None else Some (from + place))
    go true = refl
    go false = ap Some (omega (arith, distance))

pub wrong_in_change-moved : (wide : Bool) (d : ℕ) (file : List ℕ) (at : ℕ) (other : List ℕ) (from : ℕ) → at ≡ d + from → Agrees 8 file at other from
    → wrong_in_change wide at file ≡ moved d (wrong_in_change wide from other)
wrong_in_change-moved wide d file at other from distance agrees =
    first_in-moved d 8 (wrong_byte wide at file) (wrong_byte wide from other) (wrong_byte-moved wide d file at other from distance agrees)

pub wrong_in_cell-body : (wide : Bool) (d : ℕ) (file : List ℕ) (at : ℕ) (other : List ℕ) (from : ℕ) → at ≡ d + from
    → Agrees bytes_of_changes file (at + 9) other (from + 9) → wrong_in_cell wide at file ≡ moved d (wrong_in_cell wide from other)
wrong_in_cell-body wide d file at other from distance agrees = go (is_within 1 most_changes (cell_count from other)) refl
  where
    count : cell_count at file ≡ cell_count from other
    count = first_byte bytes_of_changes file (at + 9) other (from + 9) agrees (omega arith)

    change : (k : ℕ) → 8 * k + 8 ≤ 576 → Agrees 8 file (at + 10 + 8 * k) other (from + 10 + 8 * k)
    change k fits = part 576 file (at + 10) other (from + 10) (8 * k) 8 (behind_count file at other from agrees) (omega arith)

    go : (b : Bool) → is_within 1 most_changes (cell_count from other) ≡ b → wrong_in_cell wide at file ≡ moved d (wrong_in_cell wide from other)
    go true is =
        let few = (within 1 most_changes (cell_count from other) is).1 in
        wrong_change wide at file (ap (is_within 1 most_changes) count ∙ is)
        ∙ ap (first_in (λ k. wrong_in_change wide (at + 10 + 8 * k) file)) count
        ∙ first_in-moved d (cell_count from other) (λ k. wrong_in_change wide (at + 10 + 8 * k) file)
        (λ k. wrong_in_change wide (from + 10 + 8 * k) other)
        (λ k less. wrong_in_change-moved wide d file (at + 10 + 8 * k) other (from + 10 + 8 * k) (omega (arith, distance))
        (change k (omega (arith, less, few))))
        ∙ ap (moved d) (sym (wrong_change wide from other is))
    go false is =
        wrong_count wide at file (ap (is_within 1 most_changes) count ∙ is)
        ∙ ap Some (omega (arith, distance))
        ∙ ap (moved d) (sym (wrong_count wide from other is))

pub wrong_in_cell-moved : (wide : Bool) (d : ℕ) (file : List ℕ) (at : ℕ) (other : List ℕ) (from : ℕ) → at ≡ d + from → Agrees bytes_of_cell file at other from
    → wrong_in_cell wide at file ≡ moved d (wrong_in_cell wide from other)
wrong_in_cell-moved wide d file at other from distance agrees =
    wrong_in_cell-body wide d file at other from distance (cell_body file at other from agrees)

pub wrong_in_cell-same : (wide : Bool) (file other : List ℕ) (at : ℕ) → Agrees bytes_of_changes file (at + 9) other (at + 9)
    → wrong_in_cell wide at file ≡ wrong_in_cell wide at other
wrong_in_cell-same wide file other at agrees =
    wrong_in_cell-body wide 0 file at other at (sym (zero-add at)) agrees ∙ moved-zero (wrong_in_cell wide at other)
