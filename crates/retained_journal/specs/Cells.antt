-- What a cell holds: a gate, a number and the changes of one batch.
use Rattle.std.specs.Prelude.{ℕ, zero, suc, ◌+◌, ◌*◌, ◌==◌, ◌&&◌, ◌||◌, nat_le, not, Bool, List, [], ◌++◌, map}
use Rattle.std.specs.Prelude.{slice_index, Option, Some, None, if◌then◌else◌}
use Rattle.std.specs.List.{range_with_len}
use Rattle.site_types.specs.declared.change.Change.{Change}
use Rattle.site_types.specs.declared.change.Change.TheVariants.{Point, Zone, Output, Delays, Count, Clear, Test}
use Rattle.retained_journal.specs.Fields.{number_at, is_within, first_in}
use Rattle.retained_journal.specs.Places.{cell_place, most_changes}

-- a change by its eight bytes: its kind, its panel, its loop, its address or number, and its value
abbrev pub change_by : ℕ → ℕ → ℕ → ℕ → ℕ → ℕ → Change
change_by kind panel line number last entries =
    if kind == 1 then Point panel line number (last == 1)
    else if kind == 2 then Zone panel number (last == 1)
    else if kind == 3 then Output panel number (last == 1)
    else if kind == 4 then Delays panel (last == 1)
    else if kind == 5 then Count panel entries
    else if kind == 6 then Clear panel
    else Test panel number (last == 1)

-- the change that stands at a place
unfoldable pub change_at : ℕ → List ℕ → Change
change_at at file =
    change_by (slice_index file at) (slice_index file (at + 1)) (slice_index file (at + 2))
    (slice_index file (at + 3))
    (slice_index file (at + 7)) (number_at 4 (at + 4) file)

-- so many changes that stand in a file one behind another, from a place on
unfoldable pub changes_at : ℕ → ℕ → List ℕ → List Change
changes_at count at file = map (λ k. change_at (at + 8 * k) file) (range_with_len 0 count)

-- the greatest address of a loop
abbrev pub greatest_address : Bool → ℕ
greatest_address wide = if wide then 192 else 96

-- the loop of a point is 1 to 4; no other change has one
abbrev pub is_line : ℕ → ℕ → Bool
is_line kind byte = if kind == 1 then is_within 1 4 byte else (byte == 0)

-- the address of a point; the number of a zone, an output or a zone in test is 1 to 32; no other change has
-- one
abbrev pub is_number : Bool → ℕ → ℕ → Bool
is_number wide kind byte =
    if kind == 1 then is_within 1 (greatest_address wide) byte
    else if (kind == 2) || (kind == 3) || (kind == 7) then is_within 1 32 byte
    else (byte == 0)

-- the last four bytes: any for counted entries, 0 for a counter that is cleared, and 0 or 1 for the rest
abbrev pub is_value : ℕ → ℕ → ℕ → Bool
is_value kind place byte =
    (kind == 5) || (if (place == 7) && not (kind == 6) then nat_le byte 1 else (byte == 0))

-- whether a byte is in the form of a change of a kind, at one of its eight places
unfoldable pub is_in_form : Bool → ℕ → ℕ → ℕ → Bool
is_in_form wide kind place byte =
    if place == 0 then is_within 1 7 byte
    else if place == 1 then is_within 1 8 byte
    else if place == 2 then is_line kind byte
    else if place == 3 then is_number wide kind byte
    else is_value kind place byte

-- a byte of a change, where it is out of its form
abbrev pub wrong_byte : Bool → ℕ → List ℕ → ℕ → Option ℕ
wrong_byte wide at file place =
    if is_in_form wide (slice_index file at) place (slice_index file (at + place)) then None else Some
    (at + place)

-- the first byte of a change that is out of its form
abbrev pub wrong_in_change : Bool → ℕ → List ℕ → Option ℕ
wrong_in_change wide at file = first_in (wrong_byte wide at file) 8

-- how many changes a cell has
abbrev pub cell_count : ℕ → List ℕ → ℕ
cell_count at file = slice_index file (at + 9)

-- the first byte of a cell that is out of its form: the number of changes, then the changes in order
unfoldable pub wrong_in_cell : Bool → ℕ → List ℕ → Option ℕ
wrong_in_cell wide at file =
    if is_within 1 most_changes (cell_count at file)
    then first_in (λ k. wrong_in_change wide (at + 10 + 8 * k) file) (cell_count at file)
    else Some (at + 9)

-- the changes of a cell
abbrev pub cell_changes : ℕ → List ℕ → List Change
cell_changes at file = changes_at (cell_count at file) (at + 10) file

-- a cell counts after those before it where its gate is open and its number is the next one
abbrev pub is_next : ℕ → ℕ → List ℕ → Bool
is_next number at file = (slice_index file at == 1) && (number_at 8 (at + 1) file == number)

-- the changes of the first cells, one cell after the other
unfoldable pub changes_of_cells : List ℕ → ℕ → List Change
changes_of_cells file zero = []
changes_of_cells file (suc n) = changes_of_cells file n ++ cell_changes (cell_place n) file
