-- What a turn of Keep makes of the system and of its journal.
use Rattle.std.specs.Prelude.{◌≡◌, ◌≤◌, ℕ, Bool, true, false, List, [], ◌∷◌}
use Rattle.panel_edges.specs.Crashes.{LeavesOnly}
use Rattle.tick_units.specs.declared.seat.Seat.{Seat}
use Rattle.tick_units.specs.Orders.{IsOrder}
use Rattle.tick_units.specs.Ticks.{last_tick}
use Rattle.site_types.specs.declared.retained.Retained.{Retained}
use Rattle.site_types.specs.declared.site.Site.{Site}
use Rattle.retained_journal.specs.declared.journal.Journal.{Journal}
use Rattle.retained_journal.specs.Images.{HasRoomForTwo, MayLeaveOr}
use Rattle.keep_turn.specs.declared.store.Store.{Store}
use Rattle.keep_turn.specs.declared.store.Store.TheVariants.{Idle, Kept as WasKept, Failed}
use Rattle.keep_turn.specs.Turns.{MakesTurn}
use Rattle.keep_batch.specs.MakingLaws.{is_wide}
use Rattle.panel_rules.specs.Batches.{batch, kept_after}
use Rattle.panel_rules.specs.Moments.{Moment, Began, Happened, Turned, Kept, IsRun, and_turns, tick_of}
use Rattle.panel_rules.specs.Storing.{KeepAnswer, Idle as WasIdle, Stored, NotStored, keep_answer}
use Rattle.panel_core.specs.declared.system.System.{System}
use Rattle.panel_parts.specs.Entries.{TellsEntries}
use Rattle.panel_core.specs.PowerCuts.{IsLeftOver, OpensToFront, OpensToFrontOr}
use Rattle.panel_core.specs.Stands.{StandsFor}

-- whether a turn of Keep failed
abbrev pub has_failed : Store → Bool
has_failed Failed = true
has_failed _ = false

abbrev pub store_of : KeepAnswer → Store
store_of WasIdle = Idle
store_of Stored = WasKept
store_of NotStored = Failed

-- what had befallen before the latest turn of Keep, else nothing
abbrev pub before_keep : List Moment → List Moment
before_keep [] = []
before_keep (Began ∷ before) = before_keep before
before_keep (Happened event ∷ before) = before_keep before
before_keep (Turned panel task ∷ before) = before_keep before
before_keep (Kept failed ∷ before) = before

-- the journal of a site keeps what a run keeps, and where it is torn attempted last what may be left over
pub record KeepsRun (site : Site) (kept : Retained) (moments : List Moment) (journal : Journal) : Type 0 where
  pub keeps : journal.kept ≡ kept_after site kept moments
  pub wide : journal.wide ≡ is_wide site
  pub torn : journal.torn ≡ true → IsLeftOver site kept moments journal.attempt.items

-- after a turn of Keep the system stands for the run, the journal keeps what the run keeps, and the answer of the turn
-- is that of the rules
pub record HasTurned (site : Site) (kept : Retained) (moments : List Moment) (store : Store) (journal : Journal)
    (system : System) : Type 0 where
  pub stands : StandsFor site kept moments system
  pub keeps : KeepsRun site kept moments journal
  pub answers : store ≡ store_of (keep_answer (has_failed store) (batch site kept (before_keep moments)))

-- Keep may have its turn now in a run that the system stands for, with this answer
pub record MayNoteKept (store : Store) (system : System) : Type 0 where
  pub site : Site
  pub kept : Retained
  pub before : List Moment
  pub stands : StandsFor site kept before system
  pub run : IsRun site.panels (Kept (has_failed store) ∷ before)

-- the turn of Keep with this answer, and with so many entries since opening, left this journal
abbrev pub NotesKept : System → Store → List ℕ → Journal → System → Type 0
NotesKept old store entries journal system =
    (site : Site) (kept : Retained) (before : List Moment)
    → StandsFor site kept before old → TellsEntries old.panels.items entries
    → IsRun site.panels (Kept (has_failed store) ∷ before)
    → journal.kept ≡ kept_after site kept (Kept (has_failed store) ∷ before)
    → StandsFor site kept (Kept (has_failed store) ∷ before) system

-- Keep may have its turn, and the journal one commit more
pub record MayKeep (journal : Journal) (system : System) : Type 0 where
  pub site : Site
  pub kept : Retained
  pub before : List Moment
  pub stands : StandsFor site kept before system
  pub keeps : KeepsRun site kept before journal
  pub run : IsRun site.panels (Kept false ∷ before)
  pub few : tick_of before ≤ last_tick
  pub tried : journal.tried ≤ last_tick

-- all entries are kept, and no operation waits for Keep
pub record HasKeptAll (system : System) : Type 0 where
  pub entries : TellsEntries system.panels.items system.counts.entries
  pub waits : system.desk.waiting.items ≡ []

-- Keep had its turn
abbrev pub KeepsTurn : System → Journal → Store → Journal → System → Type 0
KeepsTurn old journal store journal' system =
    (site : Site) (kept : Retained) (before : List Moment)
    → StandsFor site kept before old → KeepsRun site kept before journal
    → IsRun site.panels (Kept false ∷ before) → tick_of before ≤ last_tick
    → HasTurned site kept (Kept (has_failed store) ∷ before) store journal' system

-- Keep had its turn with the batch of the rules, on a disk
abbrev pub KeepsLeft : {D : Type 0} → (D → Type 0) → (D → List ℕ → Type 0) → (D → ℕ) → (D → ℕ → List ℕ → Type 0)
    → (D → ℕ) → D → D → System → Journal → Store → Journal → Type 0
KeepsLeft honest images moment left_since faults disk disk' system journal store journal' =
    (site : Site) (kept : Retained) (before : List Moment)
    → StandsFor site kept before system → IsRun site.panels before → tick_of before ≤ last_tick
    → MakesTurn honest images moment left_since faults disk disk' (batch site kept before) journal store journal'

-- each seat may have its turn, in this order, and the journal one commit more
pub record MayTurnAll (order : List Seat) (journal : Journal) (system : System) : Type 0 where
  pub site : Site
  pub kept : Retained
  pub before : List Moment
  pub stands : StandsFor site kept before system
  pub keeps : KeepsRun site kept before journal
  pub ordered : IsOrder site.panels order
  pub run : IsRun site.panels (and_turns false order before)
  pub few : tick_of before ≤ last_tick
  pub tried : journal.tried ≤ last_tick

-- each seat had its turn, in this order
abbrev pub MakesAllTurns : System → List Seat → Journal → Store → Journal → System → Type 0
MakesAllTurns old order journal store journal' system =
    (site : Site) (kept : Retained) (before : List Moment)
    → StandsFor site kept before old → KeepsRun site kept before journal
    → IsRun site.panels (and_turns false order before) → tick_of before ≤ last_tick
    → HasTurned site kept (and_turns (has_failed store) order before) store journal' system

module _ {D : Type 0} (moment : D → ℕ) (left_since : D → ℕ → List ℕ → Type 0) (old new :
    D) where
  -- at each moment of Keep's turn a crash leaves what it might have left before, or what is kept with the batch of
  -- the rules
  abbrev pub LeavesWithBatch : System → Journal → Type 0
  LeavesWithBatch system journal =
      (site : Site) (kept : Retained) (before : List Moment)
      → StandsFor site kept before system → KeepsRun site kept before journal
      → IsRun site.panels before → tick_of before ≤ last_tick → HasRoomForTwo journal
      → LeavesOnly moment left_since old new (MayLeaveOr journal (batch site kept before))

  -- at each moment of the turns of an order a power cut leaves a file that opens to a front of the run before them, or
  -- to what is kept with the batch of their turn of Keep
  abbrev pub LeavesInTurns : List Seat → System → Journal → Type 0
  LeavesInTurns order system journal =
      (site : Site) (kept : Retained) (before : List Moment)
      → StandsFor site kept before system → KeepsRun site kept before journal
      → IsRun site.panels (and_turns false order before) → tick_of before ≤ last_tick → HasRoomForTwo journal
      → LeavesOnly moment left_since old new (OpensToFrontOr site kept journal.digest before
      (batch site kept (before_keep (and_turns false order before))))

-- after the turns of an order, of which Keep's answered so, a power cut leaves a file that opens to a front of the run
abbrev pub LeavesAfterTurns : (List ℕ → Type 0) → List Seat → System → Journal → Store → Type 0
LeavesAfterTurns images order system journal store =
    (site : Site) (kept : Retained) (before : List Moment) (file : List ℕ)
    → StandsFor site kept before system → KeepsRun site kept before journal
    → IsRun site.panels (and_turns false order before) → tick_of before ≤ last_tick → images file
    → OpensToFront site kept journal.digest (and_turns (has_failed store) order before) file
