-- What each step makes of a panel at work by itself behind its door.
use Rattle.std.specs.Prelude.{◌≡◌, ◌+◌, ◌*◌, ◌^◌, ◌≤◌, ◌<◌, ℕ, true, false, List, [], length, Result, Ok, Err}
use Rattle.desk_doors.specs.Doors.{Gives, HandsBack, StillTells}
use Rattle.desk_doors.specs.Passing.{DoorSides}
use Rattle.desk_runs.specs.Ticks.{HasRoomForTick}
use Rattle.node_answers.specs.Exchanges.{ExchangedConn, Exchanges, ExchangesEach}
use Rattle.node_answers.specs.declared.exchanged.Exchanged.{Exchanged}
use Rattle.node_command.specs.Serving.{ExchangesAll}
use Rattle.node_desk.specs.Running.{node_stored_new, node_stored_old}
use Rattle.node_desk.specs.Runs.{RunsFor}
use Rattle.node_desk.specs.declared.node_run.NodeRun.{NodeRun}
use Rattle.node_rules.specs.Histories.{NodeMoment}
use Rattle.panel_edges.specs.declared.failed.Failed.{Failed}
use Rattle.panel_rules.specs.Moments.{TickBlock, moments}
use Rattle.serving_ends.specs.declared.serving_end.ServingEnd.{ServingEnd}
use Rattle.site_run.specs.Outside.{Disks}
use Rattle.site_run.specs.Stands.{Stores}
use Rattle.site_types.specs.declared.retained.Retained.{Retained}
use Rattle.site_types.specs.declared.site.Site.{Site}

module _ (site : Site) (panel : ℕ) (kept : Retained) where
  -- one connection was served as the door gave it, and handed back
  pub record ServesAt (history : List NodeMoment) (ticks : List TickBlock) (disks : Disks) (door : DoorSides) (before
      after : NodeRun) (exchanged : Exchanged) : Type 0 where
    pub later : List NodeMoment
    pub next : List TickBlock
    pub conn : ExchangedConn
    pub is_conn : conn.exchanged ≡ exchanged
    pub gives : Gives door.waiting_before door.waiting_after conn.given
    pub takes : HandsBack door.handed_before door.handed_after conn.back
    pub exchanges : Exchanges site before.node.digest panel kept history conn.given conn.back exchanged later
    pub runs : RunsFor site panel kept later next after
    pub stores : Stores site kept (node_stored_old disks before) (node_stored_new disks after) ticks next
    pub few : length (moments next) ≤ length (moments ticks) + 2 ^ 17

  -- connections were served one after another since the opening
  pub record ServesSome (disks : Disks) (door : DoorSides) (before after : NodeRun) (served : ℕ) : Type 0 where
    pub history : List NodeMoment
    pub ticks : List TickBlock
    pub conns : List ExchangedConn
    pub each : ExchangesEach site before.node.digest panel kept conns history
    pub gave : ExchangesAll conns door
    pub count : served ≡ length conns
    pub runs : RunsFor site panel kept history ticks after
    pub stores : Stores site kept (node_stored_old disks before) (node_stored_new disks after) [] ticks
    pub few : length (moments ticks) ≤ served * 2 ^ 17

-- the door gave no connection; the panel and its disk stay as they were, and so does what the door still tells
pub record GivesNone (disks : Disks) (door : DoorSides) (before after : NodeRun) : Type 0 where
  pub disk : disks.new ≡ disks.old
  pub waiting : door.waiting_after ≡ door.waiting_before
  pub handed : StillTells door.handed_before door.handed_after
  pub same : after ≡ before

-- what came of asking the door for the next connection
abbrev pub ServesNext : Disks → DoorSides → NodeRun → NodeRun → Result Exchanged Failed → Type 0
ServesNext disks door before after (Ok exchanged) =
    (site : Site) (panel : ℕ) (kept : Retained) (history : List NodeMoment) (ticks : List TickBlock)
    → RunsFor site panel kept history ticks before → HasRoomForTick ticks
    → ServesAt site panel kept history ticks disks door before after exchanged
ServesNext disks door before after (Err failed) = GivesNone disks door before after

-- nothing was served yet
pub record IsOpened (run : NodeRun) : Type 0 where
  pub site : Site
  pub panel : ℕ
  pub kept : Retained
  pub runs : RunsFor site panel kept [] [] run

-- how serving so many connections ended
pub record EndsSo (count : ℕ) (end : ServingEnd) : Type 0 where
  pub whole : end.failed ≡ false → end.served ≡ count
  pub part : end.failed ≡ true → end.served < count

abbrev pub HasServedAll : Disks → DoorSides → ℕ → NodeRun → NodeRun → ServingEnd → Type 0
HasServedAll disks door count before after end =
    (site : Site) (panel : ℕ) (kept : Retained) → RunsFor site panel kept [] [] before
    → ServesSome site panel kept disks door before after end.served × EndsSo count end
