-- What a file opens to: refused, empty, or a kept state.
use Rattle.std.specs.Prelude.{ℕ, ◌+◌, ◌*◌, ◌^◌, ◌==◌, ◌&&◌, ◌||◌, nat_lt, not, Bool, List, [], ◌∷◌, length, bytes_eq}
use Rattle.std.specs.Prelude.{slice_index, Option, Some, None, Result, Ok, Err, if◌then◌else◌}
use Rattle.site_types.specs.declared.retained.Retained.{Retained}
use Rattle.site_types.specs.Changes.{changed_by}
use Rattle.site_types.specs.Limits.{greatest_count}
use Rattle.retained_journal.specs.declared.open_refusal.OpenRefusal.{OpenRefusal}
use Rattle.retained_journal.specs.declared.open_refusal.OpenRefusal.TheVariants.{NotAJournal, OtherSite, Damaged}
use Rattle.retained_journal.specs.Places.{cell_place, digest_place, file_mark, front_bytes, log_gate, most_cells}
use Rattle.retained_journal.specs.Places.{slot_place, whole_bytes}
use Rattle.retained_journal.specs.Places.{second_slot, first_slot}
use Rattle.retained_journal.specs.Places.{counters_place}
use Rattle.retained_journal.specs.Fields.{bytes_at, first_in, number_at, run_length}
use Rattle.retained_journal.specs.Slots.{retained_at, slot_number}
use Rattle.retained_journal.specs.Cells.{changes_of_cells, is_next, wrong_in_cell}

-- a gate is open where its byte is 1, and shut where it is any other
abbrev pub is_open : ℕ → List ℕ → Bool
is_open at file = slice_index file at == 1

-- The chosen slot is the open one, or of two the one with the greater number, with equal numbers slot A. This
-- is whether it is slot B.
abbrev pub is_second : List ℕ → Bool
is_second file =
    is_open second_slot file
    && (not (is_open first_slot file)
    || nat_lt (slot_number first_slot file) (slot_number second_slot file))

-- where the chosen slot begins
abbrev pub chosen_place : List ℕ → ℕ
chosen_place file = slot_place (is_second file)

-- the cells are looked at where the log gate is open: the first ones that are open and numbered in order
-- behind the chosen slot count
abbrev pub counted : List ℕ → ℕ
counted file =
    if is_open log_gate file
    then run_length (λ i. is_next (slot_number (chosen_place file) file + 1 + i) (cell_place i) file) 0
    most_cells
    else 0

-- the kept state: that of the chosen slot followed by the changes of the counted cells
abbrev pub kept_in : Bool → List ℕ → Retained
kept_in wide file =
    changed_by (changes_of_cells file (counted file)) (retained_at wide (chosen_place file) file)

-- the file doesn't begin with the mark of a journal
abbrev pub not_a_journal : List ℕ → Option OpenRefusal
not_a_journal file =
    if bytes_eq (bytes_at 8 0 file) file_mark then None else Some (NotAJournal (bytes_at 8 0 file))

-- the file ends too soon: before its cells, or before the end of the cells where the log gate is open
abbrev pub cut_short : ℕ → List ℕ → Option OpenRefusal
cut_short len file =
    if nat_lt len front_bytes || (is_open log_gate file && nat_lt len whole_bytes) then Some (Damaged len 0)
    else None

-- the file carries the digest of another site
abbrev pub other_site : List ℕ → List ℕ → Option OpenRefusal
other_site digest file =
    if bytes_eq (bytes_at 32 digest_place file) digest then None
    else Some (OtherSite (bytes_at 32 digest_place file) digest)

-- no slot is open
abbrev pub no_open_slot : List ℕ → Option OpenRefusal
no_open_slot file =
    if is_open first_slot file || is_open second_slot file then None else Some (Damaged first_slot (slice_index file first_slot))

-- the number of the chosen slot is above 2^63
abbrev pub number_too_great : ℕ → List ℕ → Option OpenRefusal
number_too_great at file =
    if nat_lt (2 ^ 63) (slot_number at file) then Some (Damaged (at + 1) (slice_index file (at + 1))) else
    None

-- the place of a panel's counter that is too great
abbrev pub great_counter : ℕ → List ℕ → ℕ → Option ℕ
great_counter at file panel =
    if nat_lt greatest_count (number_at 4 (at + counters_place + 4 * panel) file)
    then Some (at + counters_place + 4 * panel)
    else None

-- damage at a place, where there is one
abbrev pub damaged : List ℕ → Option ℕ → Option OpenRefusal
damaged file None = None
damaged file (Some at) = Some (Damaged at (slice_index file at))

-- a counter of the chosen slot is too great, that of the least panel first
abbrev pub counter_too_great : ℕ → List ℕ → Option OpenRefusal
counter_too_great at file = damaged file (first_in (great_counter at file) 8)

-- a byte of a counted cell is out of its form
abbrev pub change_out_of_form : Bool → List ℕ → Option OpenRefusal
change_out_of_form wide file =
    damaged file (first_in (λ i. wrong_in_cell wide (cell_place i) file) (counted file))

-- the first refusal that there is
abbrev pub first_of : List (Option OpenRefusal) → Option OpenRefusal
first_of [] = None
first_of (Some refusal ∷ rest) = Some refusal
first_of (None ∷ rest) = first_of rest

-- why a file is refused by its front, by the first of these causes
abbrev pub front_refusal : List ℕ → ℕ → List ℕ → Option OpenRefusal
front_refusal digest len file = first_of (
    not_a_journal file
    ∷ cut_short len file
    ∷ other_site digest file
    ∷ no_open_slot file
    ∷ number_too_great (chosen_place file) file
    ∷ counter_too_great (chosen_place file) file
    ∷ [])

-- why a file that isn't empty is refused, for a site's digest: by its front first, then by its counted cells
abbrev pub refusal_of : Bool → List ℕ → List ℕ → Option OpenRefusal
refusal_of wide digest file =
    first_of (front_refusal digest (length file) file ∷ change_out_of_form wide file ∷ [])

-- what opening makes of a file
pub data Opened : Type 0 where
  Refuses : OpenRefusal → Opened
  Empty : Opened
  Opens : Retained → Opened

-- a test that passes where there is no refusal
abbrev pub passes : Option OpenRefusal → Result (Unit {0}) OpenRefusal
passes None = Ok tt
passes (Some refusal) = Err refusal

-- a refusal if there is one, else the kept state
abbrev pub refused_or : Option OpenRefusal → Retained → Opened
refused_or None kept = Opens kept
refused_or (Some refusal) kept = Refuses refusal

-- what a file opens to, for a site's digest and in a wide journal or not
abbrev pub opened : Bool → List ℕ → List ℕ → Opened
opened wide digest file =
    if length file == 0 then Empty else refused_or (refusal_of wide digest file) (kept_in wide file)
