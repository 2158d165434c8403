-- What a turn of Keep makes of the journal, and when it answers so.
use Rattle.std.specs.Prelude.{◌≡◌, ◌≢◌, ◌+◌, ◌≤◌, ◌↔◌, ℕ, Bool, true, false, List, [], length}
use Rattle.panel_edges.specs.Crashes.{LeavesOnly}
use Rattle.panel_edges.specs.Faults.{Rose}
use Rattle.site_types.specs.declared.change.Change.{Change}
use Rattle.site_types.specs.Changes.{changed_by}
use Rattle.retained_journal.specs.declared.journal.Journal.{Journal}
use Rattle.retained_journal.specs.Batches.{CanKeepAll}
use Rattle.retained_journal.specs.Images.{HasRoom, HasRoomForTwo, IsEarly, MayLeaveOr, Stands}
use Rattle.retained_journal.specs.Outcomes.{EachMayBeLeft, EachOpens, IsAttempted}
use Rattle.keep_turn.specs.declared.store.Store.{Store}
use Rattle.keep_turn.specs.declared.store.Store.TheVariants.{Idle, Kept, Failed}

-- at most 72 changes that the journal can keep, perhaps none
pub record MayCommit (wide : Bool) (batch : List Change) : Type 0 where
  pub few : length batch ≤ 72
  pub keeps : CanKeepAll wide batch

-- Idle where there was nothing to commit, Kept where the batch is kept, and Failed where neither the batch is kept
-- nor the journal whole; the batch last attempted is then this one, or as it was of a journal that was torn before
abbrev pub AnswersTurn : List Change → Journal → Store → Journal → Type 0
AnswersTurn batch old Idle new = (batch ≡ []) × (new.kept ≡ old.kept) × (new.torn ≡ false)
AnswersTurn batch old Kept new = (batch ≢ []) × (new.kept ≡ changed_by batch old.kept) × (new.torn ≡ false)
AnswersTurn batch old Failed new = (new.kept ≡ old.kept) × (new.torn ≡ true) × IsAttempted batch old new

-- at most one commit more was tried, on the journal of the same site
pub record TriesAtMostOnce (old new : Journal) : Type 0 where
  pub wide : new.wide ≡ old.wide
  pub digest : new.digest ≡ old.digest
  pub tried : new.tried ≤ old.tried + 1
  pub number : new.number ≤ old.number + 2

-- the count of the disk's faults never falls, and a turn that failed has raised it
pub record FailsByItsDisk (before after : ℕ) (answer : Store) : Type 0 where
  pub later : before ≤ after
  pub failed : answer ≡ Failed → Rose before after

module _ {D : Type 0} (honest : D → Type 0) (images : D → List ℕ → Type 0) (faults : D → ℕ) where
  -- a turn of Keep on a disk that answered so leaves the journal standing on it
  pub record LeavesJournal (before after : D) (old : Journal) (answer : Store) (new : Journal) : Type 0 where
    pub stands : Stands honest images after new
    pub same : TriesAtMostOnce old new
    pub early : IsEarly old → IsEarly new
    -- after any answer but a failure each file that a crash may leave opens to what is kept
    pub opens : answer ≢ Failed → honest after → HasRoom new → EachOpens (images after) new
    pub left : honest after → HasRoom new → EachMayBeLeft (images after) new
    pub keeps_honest : honest after ↔ honest before
    pub cause : FailsByItsDisk (faults before) (faults after) answer

module _ {D : Type 0} (honest : D → Type 0) (images : D → List ℕ → Type 0) (moment : D → ℕ) (left_since : D → ℕ → List ℕ
    → Type 0) (faults : D → ℕ) where
  -- a turn with this batch, on a disk, answered so and left this journal
  pub record MakesTurn (before after : D) (batch : List Change) (old : Journal) (answer : Store) (new : Journal) :
      Type 0 where
    pub leaves : LeavesJournal honest images faults before after old answer new
    pub answers : AnswersTurn batch old answer new
    -- at each moment of the turn a crash leaves what it might have left before, or what is kept with the batch
    pub moments : honest before → HasRoomForTwo old
        → LeavesOnly moment left_since before after (MayLeaveOr old batch)
