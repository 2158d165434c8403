-- What each file holds that a crash may leave of an open journal.
use Rattle.std.specs.Prelude.{◌≡◌, ◌≢◌, ◌⊎◌, ◌+◌, ◌*◌, ◌^◌, ◌<◌, ◌≤◌, not, ℕ, Bool, true, false, List, length}
use Rattle.std.specs.Prelude.{slice_index, MatchBool, None}
use Rattle.panel_edges.specs.Crashes.{LeavesOnly}
use Rattle.site_types.specs.Changes.{AreCounters, changed_by}
use Rattle.site_types.specs.declared.change.Change.{Change}
use Rattle.site_types.specs.declared.retained.Retained.{Retained}
use Rattle.retained_journal.specs.declared.journal.Journal.{Journal}
use Rattle.retained_journal.specs.declared.log_gate.LogGate.{LogGate}
use Rattle.retained_journal.specs.declared.log_gate.LogGate.TheVariants.{Shut, Ready, Open}
use Rattle.retained_journal.specs.Places.{cell_place, digest_place, file_mark, front_bytes, log_gate, slot_place}
use Rattle.retained_journal.specs.Places.{whole_bytes}
use Rattle.retained_journal.specs.Places.{most_cells}
use Rattle.retained_journal.specs.Fields.{bytes_at, number_at}
use Rattle.retained_journal.specs.Slots.{IsKeepable, counters_at, retained_at, slot_number}
use Rattle.retained_journal.specs.Cells.{cell_changes, changes_of_cells, is_next, wrong_in_cell}
use Rattle.retained_journal.specs.Opening.{Opens, opened}
use Rattle.tick_units.specs.Ticks.{last_tick}

-- where the chosen slot begins
abbrev pub chosen_of : Journal → ℕ
chosen_of journal = slot_place journal.second

-- where the other slot begins
abbrev pub other_of : Journal → ℕ
other_of journal = slot_place (not journal.second)

-- where the next cell begins
abbrev pub next_of : Journal → ℕ
next_of journal = cell_place journal.cells

-- The log gate. While it stands shut no cell counts; once it may be open the file is whole.
abbrev pub HasLog : LogGate → ℕ → List ℕ → Type 0
HasLog Shut cells file = (slice_index file log_gate ≢ 1) × (cells ≡ 0)
HasLog Ready cells file = (whole_bytes ≤ length file) × (cells ≡ 0)
HasLog Open cells file = (slice_index file log_gate ≡ 1) × (whole_bytes ≤ length file)

-- the cell behind the first ones holds these changes behind its gate, with the number behind another, and the
-- gate of the cell after it is shut
pub record HoldsChanges (wide : Bool) (cells last : ℕ) (batch : List Change) (file : List ℕ) : Type 0 where
  pub next_number : number_at 8 (cell_place cells + 1) file ≡ last + 1
  pub form : wrong_in_cell wide (cell_place cells) file ≡ None
  pub changes : cell_changes (cell_place cells) file ≡ batch
  pub after_shut : slice_index file (cell_place (cells + 1)) ≢ 1

-- the next cell holds the batch last attempted
abbrev pub HoldsBatch : Journal → List ℕ → Type 0
HoldsBatch journal file = HoldsChanges journal.wide journal.cells journal.number journal.attempt.items file

-- The next cell. Where its gate may be open, what lies behind it has not the next number or holds the batch
-- last attempted, so that any byte of the gate will do; else the gate is shut.
abbrev pub HasNext : Journal → List ℕ → Type 0
HasNext journal file =
    MatchBool journal.cell_may_be_open
    ((number_at 8 (next_of journal + 1) file ≢ journal.number + 1) ⊎ HoldsBatch journal file)
    (slice_index file (next_of journal) ≢ 1)

-- the log gate isn't shut
abbrev pub MayCount : LogGate → Type 0
MayCount Shut = ⊥
MayCount Ready = Unit {0}
MayCount Open = Unit {0}

-- the other slot of a journal is behind the chosen one: of two open slots with these numbers the chosen one counts
abbrev pub IsBehind : Bool → ℕ → ℕ → Type 0
IsBehind true other chosen = other < chosen
IsBehind false other chosen = other ≤ chosen

-- all cells count, and a slot holds a state with the number behind another
pub record HoldsState (wide second : Bool) (cells last : ℕ) (kept : Retained) (file : List ℕ) : Type 0 where
  pub all_cells : cells ≡ most_cells
  pub copy_number : slot_number (slot_place second) file ≡ last + 1
  pub copy : retained_at wide (slot_place second) file ≡ kept

-- all cells of a journal count, and its other slot holds what is kept, with the number behind that of the last cell
abbrev pub HoldsCopy : Journal → List ℕ → Type 0
HoldsCopy journal file =
    HoldsState journal.wide (not journal.second) journal.cells journal.number journal.kept file

-- The other slot. Where its gate may be open, it is behind the chosen one, or a move was begun and it holds
-- what is kept, so that any byte of the gate will do; else the gate is shut.
abbrev pub HasOther : Journal → List ℕ → Type 0
HasOther journal file =
    MatchBool journal.slot_may_be_open
    (IsBehind journal.second (slot_number (other_of journal) file) (slot_number (chosen_of journal) file)
    ⊎ ((journal.moving ≡ true) × HoldsCopy journal file))
    (slice_index file (other_of journal) ≢ 1)

-- A file that a crash may leave of a journal: its chosen slot and the cells that count stand whole and open.
pub record IsImage (journal : Journal) (file : List ℕ) : Type 0 where
  pub size : front_bytes ≤ length file
  pub mark : bytes_at 8 0 file ≡ file_mark
  pub site : bytes_at 32 digest_place file ≡ journal.digest
  pub log : HasLog journal.log journal.cells file
  pub gate : slice_index file (chosen_of journal) ≡ 1
  pub number : slot_number (chosen_of journal) file + journal.cells ≡ journal.number
  pub small : AreCounters (counters_at (chosen_of journal) file)
  pub counts : (i : ℕ) → i < journal.cells
      → is_next (slot_number (chosen_of journal) file + 1 + i) (cell_place i) file ≡ true
  pub form : (i : ℕ) → i < journal.cells → wrong_in_cell journal.wide (cell_place i) file ≡ None
  pub state :
      changed_by (changes_of_cells file journal.cells) (retained_at journal.wide (chosen_of journal) file)
      ≡ journal.kept
  pub next : MayCount journal.log → journal.cells < most_cells → HasNext journal file
  pub other : HasOther journal file

-- What holds of an open journal whatever the disk: its state has room in a slot, its numbers have room in
-- theirs, and it is torn unless all stands.
pub record IsSound (journal : Journal) : Type 0 where
  pub few : journal.cells ≤ most_cells
  pub keeps : IsKeepable journal.wide journal.kept
  pub bound : journal.number ≤ 2 ^ 63 + most_cells + 2 * journal.tried
  pub untorn : journal.torn ≡ false → (journal.log ≡ Open) × (journal.cell_may_be_open ≡ false)
      × (journal.moving ≡ false)

-- A journal stands on its disk: it is sound, and each file that a crash may leave of an honest disk is an
-- image of it.
pub record Stands {D : Type 0} (honest : D → Type 0) (images : D → List ℕ → Type 0) (disk : D) (journal :
    Journal) : Type 0 where
  pub sound : IsSound journal
  pub each : honest disk → (file : List ℕ) → images disk file → IsImage journal file

-- the number of the chosen slot was at most 2^62 when the journal was opened: each commit gives at most two
abbrev pub IsEarly : Journal → Type 0
IsEarly journal = journal.number ≤ 2 ^ 62 + most_cells + 2 * journal.tried

-- the file opens to what is kept
abbrev pub OpensToKept : Journal → List ℕ → Type 0
OpensToKept journal file = opened journal.wide journal.digest file ≡ Opens journal.kept

-- the file opens to what is kept with this whole batch
abbrev pub OpensToKeptWith : Journal → List Change → List ℕ → Type 0
OpensToKeptWith journal batch file =
    opened journal.wide journal.digest file ≡ Opens (changed_by batch journal.kept)

-- the file opens to what is kept, or to it with this whole batch
abbrev pub OpensToKeptOrWith : Journal → List Change → List ℕ → Type 0
OpensToKeptOrWith journal batch file = OpensToKept journal file ⊎ OpensToKeptWith journal batch file

-- the file opens to what is kept, or to it with the whole batch last attempted
abbrev pub OpensToKeptOrAttempt : Journal → List ℕ → Type 0
OpensToKeptOrAttempt journal file = OpensToKeptOrWith journal journal.attempt.items file

-- a slot may get the next number
abbrev pub HasRoom : Journal → Type 0
HasRoom journal = journal.number < 2 ^ 63

-- at each moment of a call a crash leaves a file that opens to what is kept, or to it with the whole batch last
-- attempted
abbrev pub LeavesKept : {D : Type 0} → (D → Type 0) → (D → ℕ) → (D → ℕ → List ℕ → Type 0) → D → D → Journal → Type 0
LeavesKept honest moment left_since old new journal =
    honest old → HasRoom journal → LeavesOnly moment left_since old new (OpensToKeptOrAttempt journal)

-- the bytes before the cells are as they were
pub record SameFront (old new : List ℕ) : Type 0 where
  pub no_shorter : length old ≤ length new
  pub same_bytes : (i : ℕ) → i < front_bytes → i < length old → slice_index new i ≡ slice_index old i

-- the first so many cells were made zero: the first gate is, and the file reaches to their end
abbrev pub HasZeros : ℕ → List ℕ → Type 0
HasZeros cells file = 0 < cells → (slice_index file (cell_place 0) ≡ 0) × (cell_place cells ≤ length file)

-- a slot and a cell may get the next two numbers
abbrev pub HasRoomForTwo : Journal → Type 0
HasRoomForTwo journal = journal.number + 1 < 2 ^ 63

-- the journal that went over to the other slot with what is kept, with cell 0 as the next one
abbrev pub after_move : Journal → Journal
after_move journal = record journal {
  slot_may_be_open = true;
  second = not journal.second;
  number = journal.number + 1;
  cells = 0;
  cell_may_be_open = true;
  moving = false;
}

-- the journal that keeps the batch last attempted, in what was the next cell
abbrev pub after_append : Journal → Journal
after_append journal = record journal {
  kept = changed_by journal.attempt.items journal.kept;
  number = journal.number + 1;
  cells = journal.cells + 1;
  cell_may_be_open = false;
}

-- What is kept, the batch last attempted and the count of tries are as they were.
pub record StaysKept (old new : Journal) : Type 0 where
  pub same_wide : new.wide ≡ old.wide
  pub same_digest : new.digest ≡ old.digest
  pub same_kept : new.kept ≡ old.kept
  pub same_attempt : new.attempt ≡ old.attempt
  pub same_tried : new.tried ≡ old.tried
  pub same_torn : new.torn ≡ old.torn

-- What is kept, the batch last attempted, the count of tries, the last number and the cells that count are as
-- they were.
pub record KeepsAll (old new : Journal) : Type 0 where
  pub same_wide : new.wide ≡ old.wide
  pub same_digest : new.digest ≡ old.digest
  pub same_kept : new.kept ≡ old.kept
  pub same_attempt : new.attempt ≡ old.attempt
  pub same_tried : new.tried ≡ old.tried
  pub same_number : new.number ≡ old.number
  pub same_cells : new.cells ≡ old.cells

-- what a crash may leave of a journal: what is kept, and where it is torn also that with the whole batch last
-- attempted
abbrev pub MayLeave : Journal → List ℕ → Type 0
MayLeave journal file =
    OpensToKept journal file ⊎ ((journal.torn ≡ true) × OpensToKeptWith journal journal.attempt.items file)

-- The batch last attempted and the count of tries are as they were, and at most two numbers were given.
pub record StaysSo (old new : Journal) : Type 0 where
  pub same_wide : new.wide ≡ old.wide
  pub same_digest : new.digest ≡ old.digest
  pub same_attempt : new.attempt ≡ old.attempt
  pub same_tried : new.tried ≡ old.tried
  pub same_torn : new.torn ≡ old.torn
  pub few_numbers : new.number ≤ old.number + 2

-- what a crash may leave while a batch is committed: what it may leave before, or what is kept with this
-- batch
abbrev pub MayLeaveOr : Journal → List Change → List ℕ → Type 0
MayLeaveOr journal batch file = MayLeave journal file ⊎ OpensToKeptWith journal batch file

-- A call has two parts: a crash at any moment up to some state of its disk leaves a file that has P, and from
-- that state on one that has Q.
pub record LeavesInTurn {D : Type 0} (moment : D → ℕ) (left_since : D → ℕ → List ℕ → Type 0) (old new :
    D) (P Q : List ℕ → Type 0) : Type 0 where
  pub between : D
  pub first : LeavesOnly moment left_since old between P
  pub second : LeavesOnly moment left_since between new Q

-- a journal whose chosen slot had a number of at most 2^62 when it was opened has room for the numbers of as many
-- commits as it may be asked for
abbrev pub EarlyHasRoom : Type 0
EarlyHasRoom =
    (journal : Journal) → IsEarly journal → journal.tried ≤ last_tick + 1
    → HasRoom journal × HasRoomForTwo journal
