-- What files open to that were made before there were cells, or zones in test.
use Rattle.std.specs.Prelude.{◌≡◌, ◌≢◌, ◌⊎◌, ◌+◌, ◌*◌, ◌<◌, ◌≤◌, ℕ, Bool, List, slice_index}
use Rattle.site_types.specs.declared.retained.Retained.{Retained}
use Rattle.site_types.specs.Changes.{nothing_retained}
use Rattle.retained_journal.specs.Cells.{cell_count}
use Rattle.retained_journal.specs.Opening.{Opens, chosen_place, counted, opened}
use Rattle.retained_journal.specs.Places.{cell_place, log_gate, most_cells}
use Rattle.retained_journal.specs.Places.{first_slot}
use Rattle.retained_journal.specs.Places.{tests_place}
use Rattle.retained_journal.specs.Slots.{retained_at}

-- zeros from the log gate to slot A
abbrev pub HasNoLogGate : List ℕ → Type 0
HasNoLogGate file = (place : ℕ) → log_gate ≤ place → place < first_slot → slice_index file place ≡ 0

-- zeros where the cells' gates would be
abbrev pub HasNoCellGates : List ℕ → Type 0
HasNoCellGates file = (cell : ℕ) → cell < most_cells → slice_index file (cell_place cell) ≡ 0

-- a file that was made without cells, or behind which nothing but zeros stands
abbrev pub IsWithoutCells : List ℕ → Type 0
IsWithoutCells file = HasNoLogGate file ⊎ HasNoCellGates file

-- a file with zeros from the log gate to slot A, or where the cells' gates would be, opens, if it does, to the state
-- of its chosen slot
abbrev pub OpensToItsSlot : Type 0
OpensToItsSlot =
    (wide : Bool) (digest file : List ℕ) (state : Retained) → IsWithoutCells file
    → opened wide digest file ≡ Opens state → state ≡ retained_at wide (chosen_place file) file

-- zeros in the 32 bytes of the chosen slot that hold the zones in test
abbrev pub HasNoTestBytes : List ℕ → Type 0
HasNoTestBytes file = (i : ℕ) → i < 32 → slice_index file (chosen_place file + tests_place + i) ≡ 0

-- no change of a cell that counts has the kind 7, that of a zone in test
abbrev pub HasNoTestChange : List ℕ → Type 0
HasNoTestChange file =
    (cell k : ℕ) → cell < counted file → k < cell_count (cell_place cell) file
    → slice_index file (cell_place cell + 10 + 8 * k) ≢ 7

-- a file with zeros in the bytes of the chosen slot that hold the zones in test, and with no change of a zone in test
-- in a cell that counts, opens, if it does, with no zone in test
abbrev pub OpensWithoutTests : Type 0
OpensWithoutTests =
    (wide : Bool) (digest file : List ℕ) (state : Retained) → HasNoTestBytes file → HasNoTestChange file
    → opened wide digest file ≡ Opens state → state.tests ≡ nothing_retained.tests
