-- What an open journal says of the file that was read.
use Rattle.std.specs.Prelude.{◌≡◌, ◌↔◌, ◌+◌, ◌&&◌, ◌||◌, ◌<◌, ◌≤◌, nat_lt, not, ℕ, Bool, true, false, List, []}
use Rattle.std.specs.Prelude.{length, if◌then◌else◌}
use Rattle.site_types.specs.Changes.{nothing_retained}
use Rattle.retained_journal.specs.declared.journal.Journal.{Journal}
use Rattle.retained_journal.specs.declared.log_gate.LogGate.TheVariants.{Shut, Open}
use Rattle.retained_journal.specs.declared.replay.Replay.{Replay}
use Rattle.retained_journal.specs.NewFiles.{IsNewFile}
use Rattle.retained_journal.specs.Opening.{chosen_place, counted, is_open, is_second, kept_in}
use Rattle.retained_journal.specs.Places.{cell_place, log_gate, most_cells, slot_place, whole_bytes}
use Rattle.retained_journal.specs.Slots.{slot_number}

-- the gate of the next cell is open, where the log gate is and there is a next cell
abbrev pub is_next_open : List ℕ → Bool
is_next_open file =
    is_open log_gate file && (nat_lt (counted file) most_cells && is_open (cell_place (counted file)) file)

-- the slot and the cells that count were read
pub record IsReplayOf (wide : Bool) (file : List ℕ) (replay : Replay) : Type 0 where
  pub cells : replay.cells ≡ counted file
  pub number : replay.number ≡ slot_number (chosen_place file) file + counted file
  pub kept : replay.kept ≡ kept_in wide file
  pub next : replay.is_next_open ≡ is_next_open file

-- a journal by the front of a file and what was read behind it
pub record IsOfFront (wide : Bool) (digest front : List ℕ) (second : Bool) (replay : Replay) (journal :
    Journal) : Type 0 where
  pub same_wide : journal.wide ≡ wide
  pub same_digest : journal.digest ≡ digest
  pub kept : journal.kept ≡ replay.kept
  pub attempt : journal.attempt.items ≡ []
  pub tried : journal.tried ≡ 0
  pub number : journal.number ≡ replay.number
  pub same_second : journal.second ≡ second
  pub cells : journal.cells ≡ replay.cells
  pub log : journal.log ≡ (if is_open log_gate front then Open else Shut)
  pub slot : journal.slot_may_be_open ≡ is_open (slot_place (not second)) front
  pub next : journal.cell_may_be_open ≡ replay.is_next_open
  pub moving : journal.moving ≡ false
  pub torn : journal.torn ≡ (not (is_open log_gate front) || replay.is_next_open)

-- A journal as it was opened: it is torn where the log gate isn't open, or where the gate of the next cell
-- is.
pub record IsReadFrom (wide : Bool) (digest file : List ℕ) (journal : Journal) : Type 0 where
  pub same_wide : journal.wide ≡ wide
  pub same_digest : journal.digest ≡ digest
  pub kept : journal.kept ≡ kept_in wide file
  pub attempt : journal.attempt.items ≡ []
  pub tried : journal.tried ≡ 0
  pub number : journal.number ≡ slot_number (chosen_place file) file + counted file
  pub second : journal.second ≡ is_second file
  pub cells : journal.cells ≡ counted file
  pub log : journal.log ≡ (if is_open log_gate file then Open else Shut)
  pub slot : journal.slot_may_be_open ≡ is_open (slot_place (not (is_second file))) file
  pub next : journal.cell_may_be_open ≡ is_next_open file
  pub moving : journal.moving ≡ false
  pub torn : journal.torn ≡ (not (is_open log_gate file) || is_next_open file)

-- a file whose front has an open log gate is whole
abbrev pub IsLong : List ℕ → List ℕ → Type 0
IsLong front file = is_open log_gate front ≡ true → whole_bytes ≤ length file

-- the journal of a new file, which keeps nothing yet
pub record IsNewJournal (wide : Bool) (digest : List ℕ) (journal : Journal) : Type 0 where
  pub same_wide : journal.wide ≡ wide
  pub same_digest : journal.digest ≡ digest
  pub kept : journal.kept ≡ nothing_retained
  pub attempt : journal.attempt.items ≡ []
  pub tried : journal.tried ≡ 0
  pub number : journal.number ≡ 1
  pub second : journal.second ≡ false
  pub cells : journal.cells ≡ 0
  pub log : journal.log ≡ Shut
  pub slot : journal.slot_may_be_open ≡ false
  pub next : journal.cell_may_be_open ≡ false
  pub moving : journal.moving ≡ false
  pub torn : journal.torn ≡ true

-- A journal that was just opened: nothing was attempted with it, and it is whole exactly where the log gate
-- is open and the gate of the next cell isn't.
pub record IsFresh (wide : Bool) (digest : List ℕ) (journal : Journal) : Type 0 where
  pub same_wide : journal.wide ≡ wide
  pub same_digest : journal.digest ≡ digest
  pub attempt : journal.attempt.items ≡ []
  pub tried : journal.tried ≡ 0
  pub moving : journal.moving ≡ false
  pub whole : (journal.torn ≡ false) ↔ ((journal.log ≡ Open) × (journal.cell_may_be_open ≡ false))

-- What opening makes of a file: an empty one becomes a new one, any other stays as it is, and the journal is
-- read from what then stands.
pub record IsOpenedOn (wide : Bool) (digest : List ℕ) (journal : Journal) (old new : List ℕ) : Type 0 where
  pub made : length old ≡ 0 → IsNewFile digest nothing_retained new × IsNewJournal wide digest journal
  pub stays : 0 < length old → new ≡ old
  pub read : IsReadFrom wide digest new journal
