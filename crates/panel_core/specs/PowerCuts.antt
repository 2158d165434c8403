-- What a power cut leaves of a run, in states and in the files that open to them. Acknowledged is an operation that
-- was answered as done, and an entry into the fire alarm condition that a shown counter has: each front of the run
-- holds it.
use Rattle.std.specs.Prelude.{◌≡◌, ◌⊎◌, ◌≤◌, ◌++◌, ℕ, true, false, List, [], ◌∷◌, length, Some, slice_get}
use Rattle.std.specs.Prelude.{if◌then◌else◌}
use Rattle.std.specs.List.{list_any}
use Rattle.site_types.specs.declared.change.Change.{Change}
use Rattle.site_types.specs.declared.retained.Retained.{Retained}
use Rattle.site_types.specs.declared.site.Site.{Site}
use Rattle.site_types.specs.Changes.{AreCounters, changed_by, operation_change}
use Rattle.retained_journal.specs.Opening.{Opens, opened}
use Rattle.keep_batch.specs.MakingLaws.{is_wide}
use Rattle.panel_rules.specs.Batches.{batch, kept_after}
use Rattle.panel_rules.specs.Faces.{counter_in}
use Rattle.panel_rules.specs.Moments.{Moment, Began, Happened, Turned, Kept, IsPast}
use Rattle.panel_rules.specs.Operations.{Answered, WasDone, operations}
use Rattle.panel_laws.specs.BatchLaws.{is_clearing_of}

-- a turn of Keep with this batch failed, and each turn of Keep since then did
abbrev pub IsFailedBatch : Site → Retained → List Moment → List Change → Type 0
IsFailedBatch site kept [] changes = ⊥
IsFailedBatch site kept (Began ∷ before) changes = IsFailedBatch site kept before changes
IsFailedBatch site kept (Happened event ∷ before) changes = IsFailedBatch site kept before changes
IsFailedBatch site kept (Turned panel task ∷ before) changes = IsFailedBatch site kept before changes
IsFailedBatch site kept (Kept false ∷ before) changes = ⊥
IsFailedBatch site kept (Kept true ∷ before) changes =
    (changes ≡ batch site kept before) ⊎ IsFailedBatch site kept before changes

-- what may be left besides what is kept: nothing, or the whole of such a batch
abbrev pub IsLeftOver : Site → Retained → List Moment → List Change → Type 0
IsLeftOver site kept moments changes = (changes ≡ []) ⊎ IsFailedBatch site kept moments changes

-- a front of a run, that is a state that a power cut may leave: what is kept after it, with nothing more or with the
-- whole batch of a turn of Keep that failed since the last one that did not
pub record IsFront (site : Site) (kept : Retained) (moments : List Moment) (state : Retained) : Type 0 where
  pub more : List Change
  pub whole : IsLeftOver site kept moments more
  pub is : state ≡ changed_by more (kept_after site kept moments)

-- a file opens to a state, for a site and the digest of its site file
abbrev pub OpensTo : Site → List ℕ → Retained → List ℕ → Type 0
OpensTo site digest state file = opened (is_wide site) digest file ≡ Opens state

-- a file opens to a front of a run, that is to a state that a power cut may leave
pub record OpensToFront (site : Site) (kept : Retained) (digest : List ℕ) (moments : List Moment) (file : List ℕ) :
    Type 0 where
  pub state : Retained
  pub front : IsFront site kept moments state
  pub opens : OpensTo site digest state file

-- a file opens to a front of a run, or to what is kept after the run with this whole batch
abbrev pub OpensToFrontOr : Site → Retained → List ℕ → List Moment → List Change → List ℕ → Type 0
OpensToFrontOr site kept digest moments changes file =
    OpensToFront site kept digest moments file
    ⊎ OpensTo site digest (changed_by changes (kept_after site kept moments)) file

-- ---- what a front holds

-- the changes of the turns of Keep that did not fail, in their order
abbrev pub committed : Site → Retained → List Moment → List Change
committed site kept [] = []
committed site kept (Began ∷ before) = committed site kept before
committed site kept (Happened event ∷ before) = committed site kept before
committed site kept (Turned panel task ∷ before) = committed site kept before
committed site kept (Kept failed ∷ before) =
    if failed then committed site kept before else committed site kept before ++ batch site kept before

-- a change stands among others
pub record StandsAmong (change : Change) (changes : List Change) : Type 0 where
  pub place : ℕ
  pub is : slice_get changes place ≡ Some change

-- a run as it was, or the run up to a turn of Keep that failed, as if that turn had not, where nothing was kept since
pub data IsAsIf (site : Site) (kept : Retained) (moments : List Moment) : List Moment → Type 0 where
  as_it_was : IsAsIf site kept moments moments
  as_if_kept : (before : List Moment) → IsPast (Kept true ∷ before) moments
      → kept_after site kept before ≡ kept_after site kept moments → IsAsIf site kept moments (Kept false ∷ before)

-- What was acknowledged is in a state: all that was committed made it from what was kept at opening, and then at most
-- one whole batch; what was answered as done was committed; and of each counter no entry that is shown is missing,
-- unless that batch clears it. So it is what the rules keep of the run, or of the run as if one turn of Keep had not
-- failed, with the settings that are in force after that.
pub record HoldsAcknowledged (site : Site) (kept : Retained) (moments : List Moment) (state : Retained) :
    Type 0 where
  pub more : List Change
  pub whole : IsLeftOver site kept moments more
  pub made : state ≡ changed_by (committed site kept moments ++ more) kept
  pub operations_done : (place : ℕ) (a : Answered) (change : Change)
      → slice_get (operations site kept moments).answers place ≡ Some a → a.reply ≡ WasDone
      → operation_change site a.request.panel a.request.operation ≡ Some change
      → StandsAmong change (committed site kept moments)
  pub entries_shown : (panel : ℕ) → length kept.counters ≡ 8 → AreCounters kept.counters
      → list_any (is_clearing_of panel) more ≡ false
      → counter_in panel (kept_after site kept moments) ≤ counter_in panel state
  pub run : List Moment
  pub as_if : IsAsIf site kept moments run
  pub keeps : state ≡ kept_after site kept run

-- each front of a run holds it, so each file that a power cut leaves opens to it
abbrev pub FrontsHoldAcknowledged : Type 0
FrontsHoldAcknowledged = (site : Site) (kept : Retained) (moments : List Moment) (state : Retained)
    → IsFront site kept moments state → HoldsAcknowledged site kept moments state
