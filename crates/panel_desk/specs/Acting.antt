-- What each step makes of a run while a connection is served.
use Rattle.std.specs.Prelude.{◌≡◌, ◌+◌, ◌^◌, ◌≤◌, ℕ, true, false, List, Option, ◌∷◌, length, Result, Ok, Err}
use Rattle.desk_register.specs.Replies.{KeeperSides}
use Rattle.desk_requests.specs.declared.route.Route.{Route}
use Rattle.desk_requests.specs.declared.route.Route.TheVariants as route
use Rattle.desk_ticks.specs.Blocks.{most_block_bytes, verdict_of}
use Rattle.panel_desk.specs.Replies.{AnswersBlock, Replies, is_stop, reply_bytes, status_of}
use Rattle.desk_runs.specs.Ticks.{HasRoomForTick, at_rest}
use Rattle.panel_desk.specs.Serving.{SentBy}
use Rattle.panel_desk.specs.declared.served.Served.{Served}
use Rattle.panel_desk.specs.declared.served.Served.TheVariants.{Answered, Stopped, Ended, ReadFault, WriteFault}
use Rattle.panel_edges.specs.Faults.{Rose}
use Rattle.panel_edges.specs.declared.failed.Failed.{Failed}
use Rattle.desk_requests.specs.Statuses.{status_number}
use Rattle.service_register.specs.Points.{PointRow, points_of}
use Rattle.panel_desk.specs.declared.reply.Reply.{Reply}
use Rattle.panel_desk.specs.declared.reply.Reply.TheVariants.{Face, Profile, Tick, Other}
use Rattle.panel_rules.specs.Moments.{IsPanel, TickBlock, moments}
use Rattle.panel_rules.specs.Timeline.{faces_of}
use Rattle.record_lines.specs.declared.line.Line.TheVariants as line
use Rattle.site_run.specs.Outside.{Disks, stored_new, stored_old}
use Rattle.site_run.specs.Stands.{Stands, Stores}
use Rattle.site_run.specs.declared.run.Run.{Run}
use Rattle.site_types.specs.declared.retained.Retained.{Retained}
use Rattle.site_types.specs.declared.site.Site.{Site}

-- ---- a reply

-- what a reply tells of a run is at hand
abbrev pub IsAtHand : Site → Retained → List TickBlock → Reply → Run → Type 0
IsAtHand site kept ticks (Face panel) run = IsPanel site.panels panel
IsAtHand site kept ticks Profile run = Unit {0}
IsAtHand site kept ticks Tick run =
    (tick : TickBlock) × (before : List TickBlock) × (ticks ≡ tick ∷ before)
    × (run.next.items ≡ faces_of site kept (moments before))
IsAtHand site kept ticks (Other reply) run = Unit {0}

-- a reply was made, and of the ticks that were run by its end something holds that tells what was done for it
pub record HasReplied (Does : List TickBlock → Type 0) (site : Site) (kept : Retained) (ticks : List TickBlock)
    (disks : Disks) (reply : Reply) (old run : Run) : Type 0 where
  pub after : List TickBlock
  pub does : Does after
  pub stands : Stands site kept (at_rest after) run
  pub at_hand : IsAtHand site kept after reply run
  pub stores : Stores site kept (stored_old disks old) (stored_new disks run) ticks after
  pub few : length (moments after) ≤ length (moments ticks) + 2 ^ 17

-- what is asked for may be replied to: a panel is one of the site's
abbrev pub IsOfSite : Site → Route → Type 0
IsOfSite site (route.Face panel) = IsPanel site.panels panel
IsOfSite site route.Ticks = Unit {0}
IsOfSite site route.Table = Unit {0}
IsOfSite site route.Visits = Unit {0}
IsOfSite site (route.Untested day) = Unit {0}
IsOfSite site route.Stop = Unit {0}

-- a request may be replied to: it asks for what the site has, its body is short enough, the run has room for a tick,
-- and the points of the register are those of the site
pub record MayReply (asked : Route) (body : List ℕ) (points : List PointRow) (run : Run) : Type 0 where
  pub site : Site
  pub kept : Retained
  pub ticks : List TickBlock
  pub stands : Stands site kept (at_rest ticks) run
  pub room : HasRoomForTick ticks
  pub short : length body ≤ most_block_bytes
  pub of : IsOfSite site asked
  pub points_are : points ≡ points_of site

-- a reply to a request was made, with what is done for it, whatever ticks were run before
abbrev pub RepliesBy : Route → List ℕ → KeeperSides → Disks → Reply → Run → Run → Type 0
RepliesBy asked body sides disks reply old run =
    (site : Site) (kept : Retained) (ticks : List TickBlock) → Stands site kept (at_rest ticks) old
    → HasRoomForTick ticks
    → HasReplied (λ after. Replies site asked body sides ticks after reply) site kept ticks disks reply old run

-- a reply to a block was made, with what comes of the block, whatever ticks were run before
abbrev pub RepliesToBlock : List ℕ → Disks → Reply → Run → Run → Type 0
RepliesToBlock body disks reply old run =
    (site : Site) (kept : Retained) (ticks : List TickBlock) → Stands site kept (at_rest ticks) old
    → HasRoomForTick ticks
    → HasReplied (λ after. AnswersBlock site body ticks after (verdict_of site body) reply) site kept ticks disks reply
    old run

-- a reply may be written
pub record MayTellReply (reply : Reply) (run : Run) : Type 0 where
  pub site : Site
  pub kept : Retained
  pub ticks : List TickBlock
  pub stands : Stands site kept (at_rest ticks) run
  pub at_hand : IsAtHand site kept ticks reply run

-- what was written, in this way, is the reply
abbrev pub TellsReply : (List ℕ → Type 0) → Reply → Run → Type 0
TellsReply Wrote reply run =
    (site : Site) (kept : Retained) (ticks : List TickBlock) → Stands site kept (at_rest ticks) run
    → IsAtHand site kept ticks reply run → Wrote (reply_bytes site kept ticks reply)

-- what came of a reply that was written so
abbrev pub SaysServed : Reply → Result (Unit {0}) Failed → Served → Type 0
SaysServed reply (Ok done) (Answered status) = (is_stop reply ≡ false) × (status ≡ status_number (status_of reply))
SaysServed reply (Ok done) Stopped = is_stop reply ≡ true
SaysServed reply (Ok done) Ended = ⊥
SaysServed reply (Ok done) ReadFault = ⊥
SaysServed reply (Ok done) WriteFault = ⊥
SaysServed reply (Err failed) served = served ≡ WriteFault

-- a reply was sent, behind whatever ticks were run before
abbrev pub SendsReply : Reply → Option (List ℕ) → Option (List ℕ) → Run → Served → Type 0
SendsReply reply old new run served =
    (site : Site) (kept : Retained) (ticks : List TickBlock) → Stands site kept (at_rest ticks) run
    → IsAtHand site kept ticks reply run → SentBy site kept ticks reply old new served

-- the count of a connection's failed writes never falls, and has risen where a write failed; nothing that is written is
-- an end of the input or a failed read
pub record BlamesWriting (before after : ℕ) (served : Served) : Type 0 where
  pub later : before ≤ after
  pub failed : served ≡ WriteFault → Rose before after
  pub not_read : served ≡ ReadFault → ⊥
