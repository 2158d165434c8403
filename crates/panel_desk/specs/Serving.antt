-- What is done by what comes over one connection.
use Rattle.std.specs.Prelude.{◌≡◌, ◌+◌, ◌^◌, ◌≤◌, ℕ, true, false, List, length, Option}
use Rattle.desk_register.specs.Replies.{IsUnchanged, KeeperSides}
use Rattle.desk_runs.specs.Ticks.{HasRoomForTick, at_rest}
use Rattle.desk_requests.specs.Statuses.{status_number}
use Rattle.desk_requests.specs.Taking.{ReadsOneRequest, body_of}
use Rattle.desk_requests.specs.declared.taken.Request.{Request}
use Rattle.desk_requests.specs.declared.taken.Taken.{Taken}
use Rattle.desk_requests.specs.declared.taken.Taken.TheVariants as taken
use Rattle.panel_desk.specs.Replies.{Replies, is_stop, refused_reply, reply_bytes, status_of}
use Rattle.panel_desk.specs.declared.reply.Reply.{Reply}
use Rattle.panel_desk.specs.declared.served.Served.{Served}
use Rattle.panel_desk.specs.declared.served.Served.TheVariants.{Answered, Stopped, Ended, ReadFault, WriteFault}
use Rattle.panel_edges.specs.Contents.{Grows, GrowsByFront}
use Rattle.panel_edges.specs.Faults.{Rose}
use Rattle.panel_rules.specs.Moments.{TickBlock, moments}
use Rattle.service_register.specs.Points.{PointRow, points_of}
use Rattle.site_run.specs.Outside.{DiskKind, Disks, Stored, stored_new, stored_old}
use Rattle.site_run.specs.Stands.{Stands, Stores}
use Rattle.site_run.specs.declared.run.Run.{Run}
use Rattle.site_types.specs.declared.retained.Retained.{Retained}
use Rattle.site_types.specs.declared.site.Site.{Site}

-- what a connection tells before it is served and after it: the bytes that are left to read, and those that were
-- written
pub record ConnSides : Type 0 where
  pub left : Option (List ℕ)
  pub rest : Option (List ℕ)
  pub written_before : Option (List ℕ)
  pub written_after : Option (List ℕ)

abbrev pub conn_sides : {C : Type 0} → (C → Option (List ℕ)) → (C → Option (List ℕ)) → C → C → ConnSides
conn_sides left written conn conn' =
    record { left = left conn; rest = left conn'; written_before = written conn; written_after = written conn' }

module _ (site : Site) (kept : Retained) where
  -- behind these ticks a reply was written whole, or a write failed and a front of it was written
  abbrev pub SentBy : List TickBlock → Reply → Option (List ℕ) → Option (List ℕ) → Served → Type 0
  SentBy ticks reply old new (Answered status) =
      (is_stop reply ≡ false) × (status ≡ status_number (status_of reply))
      × Grows old new (reply_bytes site kept ticks reply)
  SentBy ticks reply old new Stopped = (is_stop reply ≡ true) × Grows old new (reply_bytes site kept ticks reply)
  SentBy ticks reply old new Ended = ⊥
  SentBy ticks reply old new ReadFault = ⊥
  SentBy ticks reply old new WriteFault = GrowsByFront old new (reply_bytes site kept ticks reply)

  abbrev pub Sends : List TickBlock → Reply → ConnSides → Served → Type 0
  Sends ticks reply conn served = SentBy ticks reply conn.written_before conn.written_after served

  -- no tick was run and nothing was put
  pub record LeavesAll (before after : List TickBlock) (sides : KeeperSides) : Type 0 where
    pub ticks : after ≡ before
    pub keeper : IsUnchanged sides

  -- nothing was written
  pub record IsSilent (before after : List TickBlock) (sides : KeeperSides) (conn : ConnSides) : Type 0 where
    pub all : LeavesAll before after sides
    pub written : conn.written_after ≡ conn.written_before

  -- a request was replied to, and that was sent
  pub record RepliesTo (bytes : List ℕ) (request : Request) (before after : List TickBlock) (sides : KeeperSides)
      (conn : ConnSides) (served : Served) : Type 0 where
    pub reply : Reply
    pub replies : Replies site request.route (body_of request bytes) sides before after reply
    pub sends : Sends after reply conn served

  -- what is done by what was read
  abbrev pub Serves : List ℕ → Taken → List TickBlock → List TickBlock → KeeperSides → ConnSides → Served → Type 0
  Serves bytes (taken.Asked request) before after sides conn served =
      RepliesTo bytes request before after sides conn served
  Serves bytes (taken.Refused status) before after sides conn served =
      LeavesAll before after sides × Sends after (refused_reply status) conn served
  Serves bytes taken.Ended before after sides conn served =
      (served ≡ Ended) × IsSilent before after sides conn
  Serves bytes taken.ReadFault before after sides conn served =
      (served ≡ ReadFault) × IsSilent before after sides conn

  -- One connection was served behind these ticks: a request was read, or as much of one as was left, and what it asks
  -- for was done and answered. What power cuts leave of the journal's disk goes on with the tick that was run, if any.
  pub record IsServed {kind : DiskKind} (before : List TickBlock) (conn : ConnSides) (sides : KeeperSides)
      (old new : Stored kind) (served : Served) (after : List TickBlock) : Type 0 where
    pub bytes : List ℕ
    pub what : Taken
    pub read : ReadsOneRequest site.panels conn.left conn.rest bytes what
    pub serves : Serves bytes what before after sides conn served
    pub stores : Stores site kept old new before after

  -- one connection was served behind some ticks, and the run stands for all ticks that were run by then
  pub record ServesOne (before : List TickBlock) (conn : ConnSides) (sides : KeeperSides) (disks : Disks)
      (old run : Run) (served : Served) : Type 0 where
    pub after : List TickBlock
    pub is : IsServed before conn sides (stored_old disks old) (stored_new disks run) served after
    pub stands : Stands site kept (at_rest after) run
    pub few : length (moments after) ≤ length (moments before) + 2 ^ 17

-- one connection was served, whatever ticks were run before
abbrev pub HasServedOne : ConnSides → KeeperSides → Disks → Run → Run → Served → Type 0
HasServedOne conn sides disks old run served =
    (site : Site) (kept : Retained) (ticks : List TickBlock) → Stands site kept (at_rest ticks) old
    → HasRoomForTick ticks → ServesOne site kept ticks conn sides disks old run served

-- a connection may be served by a desk of so many panels, with a register of these points
pub record MayServe (panels : ℕ) (points : List PointRow) (run : Run) : Type 0 where
  pub site : Site
  pub kept : Retained
  pub ticks : List TickBlock
  pub stands : Stands site kept (at_rest ticks) run
  pub room : HasRoomForTick ticks
  pub panels_are : panels ≡ site.panels
  pub points_are : points ≡ points_of site

-- the counts of a connection's faults never fall, and what is said to be a fault has raised its count
pub record BlamesConn (reads reads' writes writes' : ℕ) (served : Served) : Type 0 where
  pub reads_later : reads ≤ reads'
  pub writes_later : writes ≤ writes'
  pub read : served ≡ ReadFault → Rose reads reads'
  pub write : served ≡ WriteFault → Rose writes writes'
