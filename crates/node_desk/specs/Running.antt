-- What each step of the next tick makes of a panel at work by itself.
use Rattle.std.specs.Prelude.{◌≡◌, ◌+◌, ◌-◌, ◌^◌, ◌<◌, ◌≤◌, ℕ, Bool, true, List, [], ◌∷◌, ◌++◌, length, map, Ok}
use Rattle.tick_units.specs.Orders.{canonical_seats}
use Rattle.tick_units.specs.Ticks.{last_tick}
use Rattle.site_types.specs.declared.event.Event.{Event}
use Rattle.site_types.specs.declared.retained.Retained.{Retained}
use Rattle.site_types.specs.declared.site.Site.{Site}
use Rattle.retained_journal.specs.Images.{IsEarly, Stands as StandsOn}
use Rattle.panel_core.specs.Keeping.{KeepsRun}
use Rattle.panel_rules.specs.Moments.{Moment, IsPanel, TickBlock, Began, and_events, moments}
use Rattle.panel_rules.specs.Records.{AreOrdered}
use Rattle.run_text.specs.Failures.{failures}
use Rattle.site_run.specs.Outside.{Disks, Stored}
use Rattle.site_run.specs.Stands.{Stores}
use Rattle.desk_runs.specs.Ticks.{HasRoomForTick, is_next, tick_told}
use Rattle.desk_ticks.specs.Blocks.{most_block_bytes}
use Rattle.node_inputs.specs.OwnBlocks.{own_verdict_of}
use Rattle.node_rules.specs.Histories.{NodeMoment, Befell, befallen}
use Rattle.node_rules.specs.Nodes.{node_face}
use Rattle.node_answers.specs.Exchanges.{and_tick, at_tick_end}
use Rattle.panel_node.specs.Stands.{NodeStandsFor}
use Rattle.face_text.specs.Starts.{ArePassed}
use Rattle.node_desk.specs.Runs.{RunsFor}
use Rattle.node_desk.specs.declared.node_run.NodeRun.{NodeRun}

-- the disk of the journal, with the journal that stands on it, before a call and after it
abbrev pub node_stored_old : (disks : Disks) → NodeRun → Stored disks.kind
node_stored_old disks run = record { disk = disks.old; journal = run.journal }

abbrev pub node_stored_new : (disks : Disks) → NodeRun → Stored disks.kind
node_stored_new disks run = record { disk = disks.new; journal = run.journal }

-- over some steps: the failed ticks rise at most with the disk's count of faults, unless that stands at its last value
pub record KeepsOn {D : Type 0} (honest : D → Type 0) (images : D → List ℕ → Type 0) (faults : D → ℕ) (old new : D)
    (before after : NodeRun) : Type 0 where
  pub stands : StandsOn honest images new after.journal
  pub digest : after.journal.digest ≡ before.journal.digest
  pub early : IsEarly before.journal → IsEarly after.journal
  pub later : faults old ≤ faults new
  pub blames : faults new < 2 ^ 64 - 1 → after.store_failures + faults old ≤ before.store_failures + faults new

-- ---- the turns of a tick

-- a tick with these events, whose turns are made in canonical order
abbrev pub own_tick : Site → Bool → List Event → TickBlock
own_tick site failed events = record { events = events; order = canonical_seats site.panels; failed = failed }

-- a tick has begun behind some ticks that were run, and some events came in it
pub record HasBegun (site : Site) (panel : ℕ) (kept : Retained) (history : List NodeMoment) (ticks : List TickBlock)
    (events : List Event) (run : NodeRun) : Type 0 where
  pub node : NodeStandsFor site panel kept
      (map (λ (moment : Moment). Befell moment) (and_events events (Began ∷ [])) ++ history) run.node
  pub own : run.panel ≡ panel
  pub member : IsPanel site.panels panel
  pub befell : befallen history ≡ moments ticks
  pub ordered : AreOrdered site.panels ticks
  pub keeps : KeepsRun site kept (moments ticks) run.journal
  pub tried : run.journal.tried ≤ length ticks
  pub shown : run.shown ≡ node_face site panel (at_tick_end history) kept
  pub failed : run.store_failures ≡ failures ticks
  pub few : length ticks < last_tick
  pub starts : ArePassed site run.starts

pub record MayMakeTurns (run : NodeRun) : Type 0 where
  pub site : Site
  pub panel : ℕ
  pub kept : Retained
  pub history : List NodeMoment
  pub ticks : List TickBlock
  pub events : List Event
  pub begun : HasBegun site panel kept history ticks events run

-- the turns of a tick were made, and what was shown before the tick is at hand
pub record MadeTick (site : Site) (panel : ℕ) (kept : Retained) (history : List NodeMoment) (ticks : List TickBlock)
    (events : List Event) (disks : Disks) (old run : NodeRun) : Type 0 where
  pub failed : Bool
  pub runs : RunsFor site panel kept
      (map (λ (moment : Moment). Befell moment) (moments (own_tick site failed events ∷ [])) ++ history)
      (own_tick site failed events ∷ ticks) run
  pub before : run.before ≡ old.shown
  pub stores : Stores site kept (node_stored_old disks old) (node_stored_new disks run) ticks
      (own_tick site failed events ∷ ticks)

abbrev pub MakesTicks : Disks → NodeRun → NodeRun → Type 0
MakesTicks disks old run =
    (site : Site) (panel : ℕ) (kept : Retained) (history : List NodeMoment) (ticks : List TickBlock)
    (events : List Event) → HasBegun site panel kept history ticks events old
    → MadeTick site panel kept history ticks events disks old run

-- ---- a block

-- the block of the next tick may be run
pub record MayRunWith (site : Site) (panel : ℕ) (kept : Retained) (history : List NodeMoment) (ticks : List TickBlock)
    (tick : ℕ) (block : List ℕ) (run : NodeRun) : Type 0 where
  pub runs : RunsFor site panel kept history ticks run
  pub room : HasRoomForTick ticks
  pub accepted : own_verdict_of site panel block ≡ Ok tick
  pub short : length block ≤ most_block_bytes
  pub next : is_next tick (length ticks) ≡ true

pub record MayRunBlock (tick : ℕ) (block : List ℕ) (run : NodeRun) : Type 0 where
  pub site : Site
  pub panel : ℕ
  pub kept : Retained
  pub history : List NodeMoment
  pub ticks : List TickBlock
  pub with : MayRunWith site panel kept history ticks tick block run

-- the block of the next tick was run, and what was shown before that tick is at hand
pub record RanBlock (site : Site) (panel : ℕ) (kept : Retained) (history : List NodeMoment) (ticks : List TickBlock)
    (block : List ℕ) (disks : Disks) (old run : NodeRun) : Type 0 where
  pub failed : Bool
  pub runs : RunsFor site panel kept (and_tick site failed block history) (tick_told site failed block ∷ ticks) run
  pub before : run.before ≡ old.shown
  pub stores : Stores site kept (node_stored_old disks old) (node_stored_new disks run) ticks
      (tick_told site failed block ∷ ticks)
  pub few : length (moments (tick_told site failed block ∷ ticks)) ≤ length (moments ticks) + 2 ^ 17

abbrev pub RunsBlock : ℕ → List ℕ → Disks → NodeRun → NodeRun → Type 0
RunsBlock tick block disks old run =
    (site : Site) (panel : ℕ) (kept : Retained) (history : List NodeMoment) (ticks : List TickBlock)
    → MayRunWith site panel kept history ticks tick block old
    → RanBlock site panel kept history ticks block disks old run
