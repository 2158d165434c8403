-- What the system and each of its panels stand for, after some moments.
use Rattle.std.specs.Prelude.{◌≡◌, ◌<◌, ◌≤◌, ◌+◌, ◌-◌, ◌^◌, ℕ, List, ◌∷◌, [], length, true, false, Some}
use Rattle.std.specs.Prelude.{◌≢◌, drop, map, slice_get, Contains}
use Rattle.tick_units.specs.declared.seat.Seat.{Seat}
use Rattle.tick_units.specs.declared.task.Task.{Task}
use Rattle.tick_units.specs.declared.task.Task.TheVariants.{Keep}
use Rattle.tick_units.specs.Orders.{IsOrder, canonical_seats, seat_of}
use Rattle.tick_units.specs.Ticks.{last_tick}
use Rattle.site_types.specs.declared.event.Event.{Event}
use Rattle.site_types.specs.declared.retained.Retained.{Retained}
use Rattle.site_types.specs.declared.site.Site.{Site}
use Rattle.site_types.specs.Changes.{IsSized}
use Rattle.site_types.specs.Done.{Done}
use Rattle.site_types.specs.Events.{has_event}
use Rattle.site_types.specs.Valid.{IsValid}
use Rattle.panel_links.specs.Stands.{StandsFor as RingStandsFor}
use Rattle.panel_rules.specs.Run.{tells_fault}
use Rattle.panel_rules.specs.Words.{ring_calls}
use Rattle.panel_rules.specs.Moments.{Moment, Began, Turned, IsRun, IsPanel, and_turns, tick_of}
use Rattle.panel_rules.specs.Operations.{requests}
use Rattle.panel_laws.specs.OperationLaws.{AreEventsOf}
use Rattle.operation_desk.specs.Replies.{AreInForce}
use Rattle.operation_desk.specs.Stands.{DesksFor}
use Rattle.hold_calls.specs.Told.{told_in_ring}
use Rattle.panel_links.specs.declared.ring.Ring.{Ring}
use Rattle.settings_shown.specs.Shown.{HasNoStrangeBits}
use Rattle.panel_parts.specs.declared.parts.Parts.{Parts}
use Rattle.panel_core.specs.declared.system.System.{System}
use Rattle.panel_parts.specs.Applied.{MayBeApplied, applied, done_so_far}
use Rattle.panel_parts.specs.Entries.{CountsFor}
use Rattle.panel_parts.specs.Stands.{HasPlan, PanelStands}

-- a panel of the ring, with these operations applied
abbrev pub StandsInRing : Site → Retained → List Done → ℕ → List Moment → Parts → Type 0
StandsInRing site kept done panel before parts =
    PanelStands site kept done (told_in_ring site kept done panel) panel before parts

-- the ring keeps what it does over a run with these operations
abbrev pub KeepsWords : Site → Retained → List Done → List Moment → Ring → Type 0
KeepsWords site kept done before ring =
    RingStandsFor site.panels (ring_calls site kept done (tells_fault site kept done) before) ring

-- all panels of a site
pub record StandsFor (site : Site) (kept : Retained) (before : List Moment) (system : System) : Type 0 where
  pub valid : IsValid site
  pub same : system.site ≡ site
  pub plan : HasPlan site system.plan
  pub tick : system.tick.0 ≡ tick_of before
  pub count : length system.panels.items ≡ site.panels
  pub each : (place : ℕ) (parts : Parts) → slice_get system.panels.items place ≡ Some parts
      → StandsInRing site kept (applied site kept before) (place + 1) before parts
  pub ring : KeepsWords site kept (applied site kept before) before system.ring
  pub events : AreEventsOf site before
  pub desk : DesksFor site kept before system.desk
  pub settings : AreInForce site kept (tick_of before) (done_so_far site kept before) system.settings
  pub sized : IsSized system.settings
  pub own : HasNoStrangeBits site system.settings
  pub counts : CountsFor site kept before system.counts

-- at the end of a tick its panels and settings have these operations applied
pub record HasApplied (site : Site) (kept : Retained) (before : List Moment) (done : List Done) (system : System)
    : Type 0 where
  pub valid : IsValid site
  pub same : system.site ≡ site
  pub tick : system.tick.0 ≡ tick_of before
  pub count : length system.panels.items ≡ site.panels
  pub each : (place : ℕ) (parts : Parts) → slice_get system.panels.items place ≡ Some parts
      → StandsInRing site kept done (place + 1) before parts
  pub settings : AreInForce site kept (tick_of before + 1) done system.settings
  pub sized : IsSized system.settings
  pub own : HasNoStrangeBits site system.settings

-- at the end of a tick the panels and settings of the system have all operations done so far applied, and the outputs
-- of each panel have taken what was done in that tick
pub record HasBegunPanels (site : Site) (kept : Retained) (before : List Moment) (system : System) : Type 0 where
  pub valid : IsValid site
  pub same : system.site ≡ site
  pub tick : system.tick.0 ≡ tick_of before
  pub count : length system.panels.items ≡ site.panels
  pub each : (place : ℕ) (parts : Parts) → slice_get system.panels.items place ≡ Some parts
      → StandsInRing site kept (done_so_far site kept before) (place + 1) (Began ∷ before) parts
  pub settings : AreInForce site kept (tick_of before + 1) (done_so_far site kept before) system.settings
  pub sized : IsSized system.settings
  pub own : HasNoStrangeBits site system.settings

-- an operation comes in force at each of them
pub record MayApplyAll (d : Done) (system : System) : Type 0 where
  pub site : Site
  pub kept : Retained
  pub before : List Moment
  pub done : List Done
  pub has : HasApplied site kept before done system
  pub may : MayBeApplied site before done d

-- the system stands for some run after which a tick may begin
pub record MayBegin (system : System) : Type 0 where
  pub site : Site
  pub kept : Retained
  pub before : List Moment
  pub stands : StandsFor site kept before system
  pub run : IsRun site.panels (Began ∷ before)

-- the system stands for some run in which the seats of an order from a place on may have their turns
pub record MayTurnFrom (order : List Seat) (from : ℕ) (system : System) : Type 0 where
  pub site : Site
  pub kept : Retained
  pub before : List Moment
  pub stands : StandsFor site kept before system
  pub ordered : IsOrder site.panels order
  pub run : IsRun site.panels (and_turns false (drop from order) before)
  pub few : tick_of before ≤ last_tick

-- all that was done so far has come in force, and the outputs may take it
pub record MayBeginOutputs (system : System) : Type 0 where
  pub site : Site
  pub kept : Retained
  pub before : List Moment
  pub has : HasApplied site kept before (done_so_far site kept before) system
  pub desk : DesksFor site kept before system.desk
  pub run : IsRun site.panels (Began ∷ before)

-- a task of a panel may have its turn
pub record MayTurnTask (panel : ℕ) (task : Task) (system : System) : Type 0 where
  pub site : Site
  pub kept : Retained
  pub before : List Moment
  pub stands : StandsFor site kept before system
  pub member : IsPanel site.panels panel
  pub run : IsRun site.panels (Turned panel task ∷ before)
  pub few : tick_of before ≤ last_tick

-- one seat of a panel may have its turn
pub record MayTurnSeat (seat : Seat) (system : System) : Type 0 where
  pub site : Site
  pub kept : Retained
  pub before : List Moment
  pub stands : StandsFor site kept before system
  pub known : Contains (canonical_seats site.panels) seat
  pub panels : seat.task ≢ Keep
  pub run : IsRun site.panels (and_turns false (seat ∷ []) before)
  pub few : tick_of before ≤ last_tick

-- these tasks of a panel may have their turns, in this order
pub record MayTurnTasks (panel : ℕ) (tasks : List Task) (system : System) : Type 0 where
  pub site : Site
  pub kept : Retained
  pub before : List Moment
  pub stands : StandsFor site kept before system
  pub member : IsPanel site.panels panel
  pub run : IsRun site.panels (and_turns false (map (seat_of panel) tasks) before)
  pub few : tick_of before ≤ last_tick

-- the system stands for some history of a site that has what an event names; over a run fewer than 2 ^ 64
-- operations are asked for
pub record MayHappen (event : Event) (system : System) : Type 0 where
  pub site : Site
  pub kept : Retained
  pub before : List Moment
  pub stands : StandsFor site kept before system
  pub has : has_event site event ≡ true
  pub few : length (requests site before) < 2 ^ 64 - 1

-- the system stands for some history of a site that has the panel
pub record HasPanel (panel : ℕ) (system : System) : Type 0 where
  pub site : Site
  pub kept : Retained
  pub before : List Moment
  pub stands : StandsFor site kept before system
  pub member : IsPanel site.panels panel
