-- What a turn of Keep makes of a panel by itself and of its journal.
use Rattle.std.specs.Prelude.{◌≡◌, ◌≢◌, ◌≤◌, ◌+◌, ℕ, false, List, ◌∷◌, length, slice_index}
use Rattle.panel_edges.specs.Crashes.{LeavesOnly}
use Rattle.tick_units.specs.Orders.{canonical_seats}
use Rattle.tick_units.specs.Ticks.{last_tick}
use Rattle.site_types.specs.declared.change.Change.{Change}
use Rattle.site_types.specs.declared.retained.Retained.{Retained}
use Rattle.site_types.specs.declared.site.Site.{Site}
use Rattle.retained_journal.specs.declared.journal.Journal.{Journal}
use Rattle.retained_journal.specs.Images.{HasRoomForTwo, MayLeaveOr}
use Rattle.keep_turn.specs.declared.store.Store.{Store}
use Rattle.node_rules.specs.Histories.{Befell, NodeMoment, befallen}
use Rattle.panel_conditions.specs.Changes.{ShowsAs}
use Rattle.panel_conditions.specs.Shown.{entries_after}
use Rattle.panel_core.specs.Keeping.{KeepsRun, before_keep, has_failed, store_of}
use Rattle.panel_core.specs.PowerCuts.{OpensToFront, OpensToFrontOr}
use Rattle.panel_rules.specs.Batches.{batch, kept_after}
use Rattle.panel_rules.specs.Moments.{Moment, Kept, IsRun, and_turns, tick_of}
use Rattle.panel_rules.specs.Storing.{keep_answer}
use Rattle.panel_node.specs.declared.node.Node.{Node}
use Rattle.panel_node.specs.Seats.{and_seats}
use Rattle.panel_node.specs.Stands.{NodeStandsFor}

-- what befell with the turns of all seats in canonical order, of which Keep's didn't fail
abbrev pub and_all_turns : Site → List NodeMoment → List Moment
and_all_turns site history = and_turns false (canonical_seats site.panels) (befallen history)

-- after a turn of Keep that answered so
pub record NodeHasTurned (site : Site) (panel : ℕ) (kept : Retained) (history : List NodeMoment) (store : Store)
    (journal : Journal) (node : Node) : Type 0 where
  pub stands : NodeStandsFor site panel kept history node
  pub keeps : KeepsRun site kept (befallen history) journal
  pub answers : store ≡ store_of (keep_answer (has_failed store) (batch site kept (before_keep (befallen history))))

-- a panel by itself stands for some run up to the last tick
pub record MayMakeBatch (node : Node) : Type 0 where
  pub site : Site
  pub panel : ℕ
  pub kept : Retained
  pub history : List NodeMoment
  pub stands : NodeStandsFor site panel kept history node
  pub run : IsRun site.panels (befallen history)
  pub few : tick_of (befallen history) ≤ last_tick

-- by panel, how many entries into the fire alarm condition there were since opening: those of the panel, and none of
-- the others
pub record TellsOwnEntries (node : Node) (entries : List ℕ) : Type 0 where
  pub own : (place : ℕ) → place + 1 ≡ node.panel → ShowsAs node.parts.hold (slice_index entries place) entries_after
  pub others : (place : ℕ) → place + 1 ≢ node.panel → slice_index entries place ≡ 0
  pub sized : length entries ≡ 8

-- what is left to keep is the batch of the rules
abbrev pub IsLeftBatch : Node → List Change → Type 0
IsLeftBatch node changes =
    (site : Site) (panel : ℕ) (kept : Retained) (history : List NodeMoment)
    → NodeStandsFor site panel kept history node → IsRun site.panels (befallen history)
    → tick_of (befallen history) ≤ last_tick → changes ≡ batch site kept (befallen history)

-- Keep may have its turn, and answer so
pub record MayNoteKept (store : Store) (node : Node) : Type 0 where
  pub site : Site
  pub panel : ℕ
  pub kept : Retained
  pub history : List NodeMoment
  pub stands : NodeStandsFor site panel kept history node
  pub run : IsRun site.panels (Kept (has_failed store) ∷ befallen history)

-- the turn of Keep with this answer, and with so many entries since opening, left this journal
abbrev pub NotesKept : Node → Store → List ℕ → Journal → Node → Type 0
NotesKept old store entries journal node =
    (site : Site) (panel : ℕ) (kept : Retained) (history : List NodeMoment)
    → NodeStandsFor site panel kept history old → TellsOwnEntries old entries
    → IsRun site.panels (Kept (has_failed store) ∷ befallen history)
    → journal.kept ≡ kept_after site kept (Kept (has_failed store) ∷ befallen history)
    → NodeStandsFor site panel kept (Befell (Kept (has_failed store)) ∷ history) node

-- what follows may befall it, in a tick that has begun, and the journal may have one commit more
pub record MayCommitIn (follows : Site → List NodeMoment → List Moment) (journal : Journal) (node : Node) : Type 0 where
  pub site : Site
  pub panel : ℕ
  pub kept : Retained
  pub history : List NodeMoment
  pub stands : NodeStandsFor site panel kept history node
  pub keeps : KeepsRun site kept (befallen history) journal
  pub run : IsRun site.panels (follows site history)
  pub few : tick_of (befallen history) ≤ last_tick
  pub tried : journal.tried ≤ last_tick

-- Keep may have its turn
abbrev pub MayKeep : Journal → Node → Type 0
MayKeep journal node = MayCommitIn (λ site history. Kept false ∷ befallen history) journal node

-- Keep had its turn
abbrev pub KeepsTurn : Node → Journal → Store → Journal → Node → Type 0
KeepsTurn old journal store journal' node =
    (site : Site) (panel : ℕ) (kept : Retained) (history : List NodeMoment)
    → NodeStandsFor site panel kept history old → KeepsRun site kept (befallen history) journal
    → IsRun site.panels (Kept false ∷ befallen history) → tick_of (befallen history) ≤ last_tick
    → NodeHasTurned site panel kept (Befell (Kept (has_failed store)) ∷ history) store journal' node

-- each seat of the site may have its turn, in canonical order
abbrev pub MayTurnAll : Journal → Node → Type 0
MayTurnAll journal node = MayCommitIn and_all_turns journal node

-- each seat of the site had its turn, in canonical order
abbrev pub MakesAllTurns : Node → Journal → Store → Journal → Node → Type 0
MakesAllTurns old journal store journal' node =
    (site : Site) (panel : ℕ) (kept : Retained) (history : List NodeMoment)
    → NodeStandsFor site panel kept history old → KeepsRun site kept (befallen history) journal
    → IsRun site.panels (and_all_turns site history) → tick_of (befallen history) ≤ last_tick
    → NodeHasTurned site panel kept (and_seats (has_failed store) (canonical_seats site.panels) history) store
    journal' node

module _ {D : Type 0} (moment : D → ℕ) (left_since : D → ℕ → List ℕ → Type 0) (old new : D) where
  -- at each moment of Keep's turn a crash leaves what it might have left before, or what is kept with the batch of
  -- the rules
  abbrev pub LeavesWithBatch : Node → Journal → Type 0
  LeavesWithBatch node journal =
      (site : Site) (panel : ℕ) (kept : Retained) (history : List NodeMoment)
      → NodeStandsFor site panel kept history node → KeepsRun site kept (befallen history) journal
      → IsRun site.panels (befallen history) → tick_of (befallen history) ≤ last_tick → HasRoomForTwo journal
      → LeavesOnly moment left_since old new (MayLeaveOr journal (batch site kept (befallen history)))

  -- at each moment of the turns of a tick a power cut leaves a file that opens to a front of the run before them, or to
  -- what is kept with the batch of their turn of Keep
  abbrev pub LeavesInTurns : Node → Journal → Type 0
  LeavesInTurns node journal =
      (site : Site) (panel : ℕ) (kept : Retained) (history : List NodeMoment)
      → NodeStandsFor site panel kept history node → KeepsRun site kept (befallen history) journal
      → IsRun site.panels (and_all_turns site history) → tick_of (befallen history) ≤ last_tick → HasRoomForTwo journal
      → LeavesOnly moment left_since old new (OpensToFrontOr site kept journal.digest (befallen history)
      (batch site kept (before_keep (and_all_turns site history))))

-- after the turns of a tick, of which Keep's answered so, a power cut leaves a file that opens to a front of the run
abbrev pub LeavesAfterTurns : (List ℕ → Type 0) → Node → Journal → Store → Type 0
LeavesAfterTurns images node journal store =
    (site : Site) (panel : ℕ) (kept : Retained) (history : List NodeMoment) (file : List ℕ)
    → NodeStandsFor site panel kept history node → KeepsRun site kept (befallen history) journal
    → IsRun site.panels (and_all_turns site history) → tick_of (befallen history) ≤ last_tick → images file
    → OpensToFront site kept journal.digest
    (and_turns (has_failed store) (canonical_seats site.panels) (befallen history)) file
