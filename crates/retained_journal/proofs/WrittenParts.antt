-- What stands behind a gate when a slot or a cell was written there.
use Rattle.std.proofs.Common.{◌≡◌, ◌+◌, ◌-◌, ℕ, List, drop, take, length, length-take, length-drop, slice_index, ap, ◌∙◌, subst, arith}
use Rattle.std.specs.Prelude.{None}
use Rattle.std.proofs.lemmas.List.{get_or-drop, get_or-take}
use Rattle.panel_edges.specs.Disks.{Holds}
use Rattle.retained_journal.specs.declared.journal.Journal.{Journal}
use Rattle.retained_journal.specs.Fields.{Agrees, number_at}
use Rattle.retained_journal.specs.Places.{cell_place}
use Rattle.retained_journal.specs.Places.{bytes_of_slot, bytes_of_cell, most_cells}
use Rattle.retained_journal.proofs.Lengths.{bytes_of_slot_body, bytes_of_changes}
use Rattle.retained_journal.specs.Slots.{retained_at, slot_number}
use Rattle.retained_journal.specs.Cells.{cell_changes, wrong_in_cell}
use Rattle.retained_journal.specs.Images.{HoldsBatch, HoldsCopy, next_of, other_of}
use Rattle.retained_journal.proofs.Agreement.{number-agrees, retained-body, sooner}
use Rattle.retained_journal.proofs.CellAgreement.{cell_changes-body, moved, wrong_in_cell-body}
use Rattle.retained_journal.proofs.Forms.{cell_in_form}

pub tail_size : (n : ℕ) (bytes : List ℕ) → length bytes ≡ n + 1 → length (take n (drop 1 bytes)) ≡ n
tail_size n bytes size = let t = length-take n (drop 1 bytes) in let d = length-drop 1 bytes in omega (arith, t, d, size)

-- all but the first of some bytes stand behind a place
pub tail_written : (n at : ℕ) (bytes d c : List ℕ) → length bytes ≡ n + 1 → Holds (at + 1) (take n (drop 1 bytes)) d c → Agrees n c (at + 1) bytes 1
tail_written n at bytes d c size holds = record {
  same = λ i less. holds.inside i (let e = tail_size n bytes size in omega (arith, e, less)) ∙ get_or-take n (drop 1 bytes) i 0 less ∙ get_or-drop 1
      bytes i 0;
}

pub slot_written : (j : Journal) (slot d c : List ℕ) (at : ℕ) → at ≡ other_of j → length slot ≡ bytes_of_slot → Holds (at + 1) (take bytes_of_slot_body (drop 1 slot)) d c
    → j.cells ≡ most_cells → slot_number 0 slot ≡ j.number + 1 → retained_at j.wide 0 slot ≡ j.kept → HoldsCopy j c
slot_written j slot d c at there size holds full number state = record {
  all_cells = full;
  copy_number = number-agrees 8 c (other_of j + 1) slot 1 (sooner bytes_of_slot_body c (other_of j + 1) slot 1 8 body (omega arith)) ∙ number;
  copy = retained-body j.wide c (other_of j) slot 0 body ∙ state;
}
  where
    body : Agrees bytes_of_slot_body c (other_of j + 1) slot 1
    body = subst (λ (k : ℕ). Agrees bytes_of_slot_body c (k + 1) slot 1) there (tail_written bytes_of_slot_body at slot d c size holds)

pub cell_written : (j : Journal) (cell d c : List ℕ) (at : ℕ) → at ≡ next_of j → length cell ≡ bytes_of_cell + 1 → Holds (at + 1) (take bytes_of_cell (drop 1 cell)) d c
    → number_at 8 1 cell ≡ j.number + 1 → wrong_in_cell j.wide 0 cell ≡ None
    → cell_changes 0 cell ≡ j.attempt.items → slice_index cell bytes_of_cell ≡ 0 → HoldsBatch j c
cell_written j cell d c at there size holds number form changes shut = record {
  next_number = number-agrees 8 c (next_of j + 1) cell 1 (sooner bytes_of_cell c (next_of j + 1) cell 1 8 body (omega arith)) ∙ number;
  form = wrong_in_cell-body j.wide (next_of j) c (next_of j) cell 0 (omega arith) behind ∙ ap (moved (next_of j)) form;
  changes = cell_changes-body c (next_of j) cell 0 behind (cell_in_form j.wide 0 cell form).few ∙ changes;
  after_shut = λ one. let e = after in omega (arith, e, shut, one);
}
  where
    body : Agrees bytes_of_cell c (next_of j + 1) cell 1
    body = subst (λ (k : ℕ). Agrees bytes_of_cell c (k + 1) cell 1) there (tail_written bytes_of_cell at cell d c size holds)

    behind : Agrees bytes_of_changes c (next_of j + 9) cell 9
    behind =
        record {
          same =
              λ i less. subst (λ (k : ℕ). slice_index c k ≡ slice_index cell (9 + i)) (omega arith)
              (subst (λ (k : ℕ). slice_index c (next_of j + 1 + (8 + i)) ≡ slice_index cell k) (omega arith) (body.same (8 + i) (omega (arith, less))));
        }

    after : slice_index c (cell_place (j.cells + 1)) ≡ slice_index cell bytes_of_cell
    after = subst (λ (k : ℕ). slice_index c k ≡ slice_index cell bytes_of_cell) (omega arith) (body.same (bytes_of_cell - 1) (omega arith))
