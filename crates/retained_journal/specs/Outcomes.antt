-- What opening, creating, mending and committing leave: of the journal, of its file, and of the files that a
-- crash may leave.
use Rattle.std.specs.Prelude.{◌≡◌, ◌≢◌, ◌⊎◌, ◌+◌, ◌<◌, ◌≤◌, ◌^◌, ℕ, Bool, true, false, List, length, Option}
use Rattle.std.specs.Prelude.{IfSome}
use Rattle.panel_edges.specs.Crashes.{LeavesOnly}
use Rattle.site_types.specs.Changes.{changed_by, nothing_retained}
use Rattle.site_types.specs.declared.change.Change.{Change}
use Rattle.site_types.specs.declared.retained.Retained.{Retained}
use Rattle.retained_journal.specs.declared.create_refusal.CreateRefusal.{CreateRefusal}
use Rattle.retained_journal.specs.declared.create_refusal.CreateRefusal.TheVariants.{DiskFault as CreateFault, NotEmpty}
use Rattle.retained_journal.specs.declared.journal.Journal.{Journal}
use Rattle.retained_journal.specs.declared.open_refusal.OpenRefusal.{OpenRefusal}
use Rattle.retained_journal.specs.declared.open_refusal.OpenRefusal.TheVariants.{DiskFault}
use Rattle.retained_journal.specs.Images.{IsEarly, LeavesInTurn, MayCount, MayLeave, OpensToKept, OpensToKeptOrWith}
use Rattle.retained_journal.specs.Images.{after_append, after_move}
use Rattle.retained_journal.specs.Opening.{Empty, Opens, Refuses, chosen_place, counted, opened}
use Rattle.retained_journal.specs.Slots.{slot_number}

-- a claim on a file that isn't empty, where its bytes are told
abbrev pub UnlessEmpty : Option (List ℕ) → Type 0 → Type 0
UnlessEmpty seen claim = IfSome seen (λ file. 0 < length file → claim)

-- at each moment of a call a crash leaves what it might have left before
abbrev pub LeavesAsItWas : {D : Type 0} → (D → Type 0) → (D → ℕ) → (D → ℕ → List ℕ → Type 0)
    → (D → List ℕ → Type 0) → D → D → Type 0
LeavesAsItWas honest moment left_since images old new =
    honest old → LeavesOnly moment left_since old new (images old)

-- nothing is written to a file that isn't empty: at each moment of a call a crash leaves what it might have left
-- before
abbrev pub SparesFull : {D : Type 0} → (D → Type 0) → (D → Option (List ℕ)) → (D → ℕ)
    → (D → ℕ → List ℕ → Type 0) → (D → List ℕ → Type 0) → D → D → Type 0
SparesFull honest seen moment left_since images old new =
    honest old → UnlessEmpty (seen old) (LeavesOnly moment left_since old new (images old))

-- what a file keeps: nothing, where it is empty
abbrev pub IsKeptIn : Bool → List ℕ → Retained → List ℕ → Type 0
IsKeptIn wide digest state file =
    (opened wide digest file ≡ Opens state) ⊎ ((opened wide digest file ≡ Empty) × (state ≡ nothing_retained))

-- why a file isn't opened, unless the disk failed
abbrev pub IsRefusalOf : Bool → List ℕ → Option (List ℕ) → OpenRefusal → Type 0
IsRefusalOf wide digest seen refusal =
    refusal ≢ DiskFault → IfSome seen (λ file. opened wide digest file ≡ Refuses refusal)

-- why no journal is created in a file, unless the disk failed: it isn't empty
abbrev pub IsLengthOf : Option (List ℕ) → CreateRefusal → Type 0
IsLengthOf seen refusal =
    refusal ≢ CreateFault → IfSome seen (λ file. (0 < length file) × (refusal ≡ NotEmpty (length file)))

-- a number of the chosen slot that is at most 2^62 leaves room for those to come
abbrev pub IsEarlyFor : Journal → List ℕ → Type 0
IsEarlyFor journal file = slot_number (chosen_place file) file ≤ 2 ^ 62 → IsEarly journal

-- as many cells of a file count as a journal says
abbrev pub CountsItsCells : Journal → List ℕ → Type 0
CountsItsCells journal file = counted file ≡ journal.cells

-- as many cells of a file count as a journal says, unless the journal is torn
abbrev pub CountsUnlessTorn : Journal → List ℕ → Type 0
CountsUnlessTorn journal file = journal.torn ≡ false → counted file ≡ journal.cells

-- each of these files opens to what is kept, and as many cells count as the journal says
abbrev pub EachOpens : (List ℕ → Type 0) → Journal → Type 0
EachOpens images journal = (file : List ℕ) → images file
    → OpensToKept journal file × (counted file ≡ journal.cells)

-- each of these files is one that a crash may leave of the journal
abbrev pub EachMayBeLeft : (List ℕ → Type 0) → Journal → Type 0
EachMayBeLeft images journal = (file : List ℕ) → images file → MayLeave journal file

-- what is kept went to the other slot, and cell 0 is the next one
abbrev pub HasMoved : Journal → Journal → Type 0
HasMoved old new = new ≡ after_move old

-- the batch last attempted went to the next cell, and is kept
abbrev pub HasAppended : Journal → Journal → Type 0
HasAppended old new = new ≡ after_append old

-- a batch was kept
abbrev pub HasKept : List Change → Journal → Journal → Type 0
HasKept batch old new = (new.kept ≡ changed_by batch old.kept) × (new.torn ≡ false)
    × (new.attempt.items ≡ batch)

-- the batch was attempted, or the journal was torn before and the batch last attempted is as it was
abbrev pub IsAttempted : List Change → Journal → Journal → Type 0
IsAttempted batch old new =
    (new.attempt.items ≡ batch) ⊎ ((old.torn ≡ true) × (new.attempt ≡ old.attempt))

-- A batch was not kept: the journal is torn and keeps what it kept. The batch was attempted, or the mending
-- before it failed.
abbrev pub HasFailed : List Change → Journal → Journal → Type 0
HasFailed batch old new =
    (new.kept ≡ old.kept) × (new.torn ≡ true) × IsAttempted batch old new

-- no cell counts, unless the log gate was open; of the journal only what is known of the log gate and of
-- the next cell's gate changed
abbrev pub HasPreparedCells : Journal → Journal → Type 0
HasPreparedCells old new =
    MayCount new.log × (new ≡ record old { log = new.log; cell_may_be_open = new.cell_may_be_open })

-- no move is left over; of the journal only what is known of the other slot's gate changed
abbrev pub HasEndedMove : Journal → Journal → Type 0
HasEndedMove old new = new ≡ record old { slot_may_be_open = new.slot_may_be_open; moving = false }

-- one commit more was tried, which gave at most two numbers
abbrev pub HasTried : Journal → Journal → Type 0
HasTried old new =
    (new.wide ≡ old.wide) × (new.digest ≡ old.digest) × (new.tried ≡ old.tried + 1)
    × (new.number ≤ old.number + 2)

-- The batch that was attempted before may be left until the mending has ended, and the new one only from then
-- on: the mending failed, or the call had both parts.
abbrev pub LeavesEachInTurn :
    {D : Type 0} → (D → ℕ) → (D → ℕ → List ℕ → Type 0) → D → D → Journal → List Change → Journal → Type 0
LeavesEachInTurn moment left_since before after old batch new =
    ((new.attempt ≡ old.attempt) × LeavesOnly moment left_since before after (MayLeave old))
    ⊎ ((new.attempt.items ≡ batch)
    × LeavesInTurn moment left_since before after (MayLeave old) (OpensToKeptOrWith old batch))
