-- What each step makes of a site at work behind its door.
use Rattle.std.specs.Prelude.{◌≡◌, ◌+◌, ◌*◌, ◌^◌, ◌≤◌, ◌<◌, ◌⊎◌, ℕ, Bool, true, false, List, [], Option, Result, Ok}
use Rattle.std.specs.Prelude.{Err, length}
use Rattle.desk_runs.specs.Ticks.{HasRoomForTick, at_rest}
use Rattle.panel_desk.specs.declared.served.Served.{Served}
use Rattle.panel_edges.specs.declared.failed.Failed.{Failed}
use Rattle.panel_rules.specs.Moments.{TickBlock, moments}
use Rattle.desk_doors.specs.Doors.{Gives, HandsBack, StillTells}
use Rattle.desk_doors.specs.Passing.{DoorSides}
use Rattle.serve_command.specs.Doors.{GivesAndTakes, ServedConn, has_stop}
use Rattle.serve_command.specs.Serving.{Between, ServesConn, ServesEach}
use Rattle.serve_command.specs.declared.counter.Counter.{Counter}
use Rattle.serving_ends.specs.declared.serving_end.ServingEnd.{ServingEnd}
use Rattle.service_keepers.specs.Tables.{Tables}
use Rattle.service_register.specs.Points.{points_of}
use Rattle.site_run.specs.Outside.{DiskKind, disk_kind}
use Rattle.site_run.specs.Stands.{Stands}
use Rattle.site_types.specs.declared.retained.Retained.{Retained}
use Rattle.site_types.specs.declared.site.Site.{Site}

-- the outside of a site at work: its journal's disk, and what the keeper of its register tells
pub record World (kind : DiskKind) : Type 0 where
  pub disk : kind.Of
  pub tables : Option Tables
  pub faults : ℕ

-- before a call and after it
pub record Worlds : Type 1 where
  pub kind : DiskKind
  pub old : World kind
  pub new : World kind

module _ {D R : Type 0} where
  abbrev pub worlds_of : (D → Type 0) → (D → List ℕ → Type 0) → (D → ℕ) → (D → ℕ → List ℕ → Type 0)
      → (R → Option Tables) → (R → ℕ) → D → D → R → R → Worlds
  worlds_of honest images moment left_since tables faults disk disk' keeper keeper' =
      record {
        kind = disk_kind honest images moment left_since;
        old = record { disk = disk; tables = tables keeper; faults = faults keeper };
        new = record { disk = disk'; tables = tables keeper'; faults = faults keeper' };
      }

-- where a site at work stands behind some ticks
abbrev pub between : {kind : DiskKind} → List TickBlock → World kind → Counter → Between kind
between ticks world counter =
    record {
      ticks = ticks;
      stored = record { disk = world.disk; journal = counter.run.journal };
      tables = world.tables;
      faults = world.faults;
    }

module _ (site : Site) (kept : Retained) where
  -- behind these ticks connections may be served
  pub record IsAt (ticks : List TickBlock) (counter : Counter) : Type 0 where
    pub stands : Stands site kept (at_rest ticks) counter.run
    pub panels : counter.desk.panels ≡ site.panels
    pub points : counter.register ≡ points_of site

  -- one connection was served as the door gave it, and handed back
  pub record ServesAt {kind : DiskKind} (ticks : List TickBlock) (old new : World kind) (door : DoorSides)
      (before after : Counter) (served : Served) : Type 0 where
    pub next : List TickBlock
    pub conn : ServedConn
    pub is_conn : conn.served ≡ served
    pub gives : Gives door.waiting_before door.waiting_after conn.given
    pub takes : HandsBack door.handed_before door.handed_after conn.back
    pub serves : ServesConn site kept (between ticks old before) conn (between next new after)
    pub is_at : IsAt next after
    pub few : length (moments next) ≤ length (moments ticks) + 2 ^ 17

  -- the door gave no connection to serve
  pub record GivesNone {kind : DiskKind} (old new : World kind) (door : DoorSides) (before after : Counter) : Type 0
    where
      pub world : new ≡ old
      pub waiting : door.waiting_after ≡ door.waiting_before
      pub handed : StillTells door.handed_before door.handed_after
      pub same : after ≡ before

  -- connections were served one after another
  pub record ServesSome {kind : DiskKind} (first last : World kind) (door : DoorSides) (before after : Counter)
      (served : ℕ) (stopped : Bool) : Type 0 where
    pub ticks : List TickBlock
    pub conns : List ServedConn
    pub each : ServesEach site kept (between [] first before) conns (between ticks last after)
    pub gave : GivesAndTakes conns door
    pub count : served ≡ length conns
    pub stops : has_stop conns ≡ stopped
    pub is_at : IsAt ticks after
    pub few : length (moments ticks) ≤ served * 2 ^ 17

-- what came of asking the door for the next connection
abbrev pub ServesNext : Worlds → DoorSides → Counter → Counter → Result Served Failed → Type 0
ServesNext worlds door before after (Ok served) =
    (site : Site) (kept : Retained) (ticks : List TickBlock) → IsAt site kept ticks before → HasRoomForTick ticks
    → ServesAt site kept ticks worlds.old worlds.new door before after served
ServesNext worlds door before after (Err failed) =
    (site : Site) (kept : Retained) → GivesNone site kept worlds.old worlds.new door before after

-- a connection may be served
pub record MayServeNext (counter : Counter) : Type 0 where
  pub site : Site
  pub kept : Retained
  pub ticks : List TickBlock
  pub is_at : IsAt site kept ticks counter
  pub room : HasRoomForTick ticks

-- nothing was served yet
pub record IsOpened (counter : Counter) : Type 0 where
  pub site : Site
  pub kept : Retained
  pub is_at : IsAt site kept [] counter

-- how serving so many connections ended
pub record EndsSo (count : ℕ) (end : ServingEnd) (stopped : Bool) : Type 0 where
  pub whole : end.failed ≡ false → (end.served ≡ count) ⊎ (stopped ≡ true)
  pub part : end.failed ≡ true → (end.served < count) × (stopped ≡ false)

abbrev pub HasServedAll : Worlds → DoorSides → ℕ → Counter → Counter → ServingEnd → Type 0
HasServedAll worlds door count before after end =
    (site : Site) (kept : Retained) → IsAt site kept [] before
    → (stopped : Bool) × ServesSome site kept worlds.old worlds.new door before after end.served stopped
    × EndsSo count end stopped
