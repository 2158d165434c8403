-- What reading the cells of a file behind its chosen slot makes.
use Rattle.std.specs.Prelude.{◌≡◌, ◌+◌, ◌<◌, ◌≤◌, ◌&&◌, nat_lt, ℕ, Bool, true, List, Option, Some, None, Result, Ok}
use Rattle.std.specs.Prelude.{Err, ◌==◌, false, slice_index}
use Rattle.panel_edges.specs.Faults.{Rose}
use Rattle.site_types.specs.Changes.{changed_by}
use Rattle.retained_journal.specs.declared.open_refusal.OpenRefusal.{OpenRefusal}
use Rattle.retained_journal.specs.declared.open_refusal.OpenRefusal.TheVariants.{Damaged, DiskFault}
use Rattle.retained_journal.specs.declared.replay.Replay.{Replay}
use Rattle.retained_journal.specs.Cells.{cell_changes, changes_of_cells, is_next, wrong_in_cell}
use Rattle.retained_journal.specs.Fields.{first_in, run_length}
use Rattle.retained_journal.specs.Opening.{damaged, is_open}
use Rattle.retained_journal.specs.Places.{bytes_of_cell, cell_place, most_cells}
use Rattle.retained_journal.specs.Slots.{retained_at, slot_number}

-- The count of faults never falls, and an answer of a fault has raised it.
pub record HasRefusalCause {T : Type 0} (before after : ℕ) (result : Result T OpenRefusal) : Type 0 where
  pub later : before ≤ after
  pub failed : result ≡ Err DiskFault → Rose before after

-- a replay of the state of a slot, before any cell
abbrev pub BeginsReplay : Bool → ℕ → List ℕ → Replay → Type 0
BeginsReplay wide at front replay =
    replay ≡ record {
      wide = wide;
      kept = retained_at wide at front;
      number = slot_number at front;
      cells = 0;
      is_next_open = false;
    }

-- What becomes of a replay with the bytes of the next cell: it ends where the cell doesn't count, is refused
-- where a byte is out of its form, and else goes on with the changes of the cell.
abbrev pub TakesCell : Replay → List ℕ → Result Bool OpenRefusal → Replay → Type 0
TakesCell old cell (Ok false) new =
    (is_next (old.number + 1) 0 cell ≡ false) × (new ≡ record old { is_next_open = slice_index cell 0 == 1 })
TakesCell old cell (Ok true) new =
    (is_next (old.number + 1) 0 cell ≡ true) × (wrong_in_cell old.wide 0 cell ≡ None)
    × (new ≡ record old {
      kept = changed_by (cell_changes 0 cell) old.kept;
      number = old.number + 1;
      cells = old.cells + 1;
    })
TakesCell old cell (Err refusal) new =
    (is_next (old.number + 1) 0 cell ≡ true)
    × ((place : ℕ) × (place < bytes_of_cell) × (wrong_in_cell old.wide 0 cell ≡ Some place)
    × (refusal ≡ Damaged (cell_place old.cells + place) (slice_index cell place)))

-- how many cells count behind a slot of a number
abbrev pub counted_behind : List ℕ → ℕ → ℕ
counted_behind file number = run_length (λ i. is_next (number + 1 + i) (cell_place i) file) 0 most_cells

-- the place of the first wrong byte in the first cells
abbrev pub wrong_in_cells : Bool → List ℕ → ℕ → Option ℕ
wrong_in_cells wide file n = first_in (λ i. wrong_in_cell wide (cell_place i) file) n

-- the first n cells count, and their changes were made
pub record HasReplayed (file : List ℕ) (begun replay : Replay) (n : ℕ) : Type 0 where
  pub wide : replay.wide ≡ begun.wide
  pub cells : replay.cells ≡ n
  pub number : replay.number ≡ begun.number + n
  pub kept : replay.kept ≡ changed_by (changes_of_cells file n) begun.kept
  pub count : (i : ℕ) → i < n → is_next (begun.number + 1 + i) (cell_place i) file ≡ true
  pub form : wrong_in_cells begun.wide file n ≡ None

-- all cells that count are in their form, and their changes were made
pub record EndsReplay (file : List ℕ) (begun replay : Replay) : Type 0 where
  pub replayed : HasReplayed file begun replay (counted_behind file begun.number)
  pub next : replay.is_next_open ≡ (nat_lt replay.cells most_cells && is_open (cell_place replay.cells) file)

-- a byte of a cell that counts is out of its form
abbrev pub RefusesReplay : List ℕ → Replay → OpenRefusal → Type 0
RefusesReplay file begun refusal =
    damaged file (wrong_in_cells begun.wide file (counted_behind file begun.number)) ≡ Some refusal
