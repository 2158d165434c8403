-- What is done by what comes over one connection of a panel at work by itself.
use Rattle.std.specs.Prelude.{◌≡◌, ◌+◌, ◌^◌, ◌≤◌, ℕ, List, length, Option}
use Rattle.site_types.specs.declared.retained.Retained.{Retained}
use Rattle.site_types.specs.declared.site.Site.{Site}
use Rattle.panel_edges.specs.Contents.{Grows, GrowsByFront}
use Rattle.panel_edges.specs.Faults.{Rose}
use Rattle.desk_doors.specs.Doors.{ToldConn}
use Rattle.panel_rules.specs.Moments.{TickBlock, moments}
use Rattle.site_run.specs.Outside.{Disks}
use Rattle.site_run.specs.Stands.{Stores}
use Rattle.desk_runs.specs.Ticks.{HasRoomForTick}
use Rattle.node_rules.specs.Histories.{NodeMoment}
use Rattle.node_answers.specs.Exchanges.{Exchanges, frame_told, tick_part}
use Rattle.node_answers.specs.declared.exchanged.Exchanged.{Exchanged}
use Rattle.node_answers.specs.declared.exchanged.Exchanged.TheVariants.{Answered, ReadFault, WriteFault}
use Rattle.node_desk.specs.Replies.{IsAtHand, reply_bytes}
use Rattle.node_desk.specs.Running.{node_stored_new, node_stored_old}
use Rattle.node_desk.specs.Runs.{RunsFor}
use Rattle.node_desk.specs.declared.node_run.NodeRun.{NodeRun}
use Rattle.node_desk.specs.declared.reply.Reply.{Reply}
use Rattle.node_desk.specs.declared.reply.Reply.TheVariants.{Tick}

-- ---- writing

-- what was written, in this way, is the frame of the panel
abbrev pub TellsFrame : (List ℕ → Type 0) → NodeRun → Type 0
TellsFrame Wrote run =
    (site : Site) (panel : ℕ) (kept : Retained) (history : List NodeMoment) (ticks : List TickBlock)
    → RunsFor site panel kept history ticks run → Wrote (frame_told site run.node.digest panel kept history)

-- what was written, in this way, is the part of the panel in the text of the tick that was run last
abbrev pub TellsTick : (List ℕ → Type 0) → NodeRun → Type 0
TellsTick Wrote run =
    (site : Site) (panel : ℕ) (kept : Retained) (before after : List NodeMoment) (ticks : List TickBlock)
    → RunsFor site panel kept after ticks run → IsAtHand site panel kept before after Tick run
    → Wrote (tick_part site run.node.digest panel kept before after)

-- what was written, in this way, is a reply of the panel
abbrev pub TellsReply : (List ℕ → Type 0) → Reply → NodeRun → Type 0
TellsReply Wrote reply run =
    (site : Site) (panel : ℕ) (kept : Retained) (before after : List NodeMoment) (ticks : List TickBlock)
    → RunsFor site panel kept after ticks run → IsAtHand site panel kept before after reply run
    → Wrote (reply_bytes site panel kept run.node.digest before after reply)

-- how a reply was sent
abbrev pub WroteBy : Exchanged → Option (List ℕ) → Option (List ℕ) → List ℕ → Type 0
WroteBy Answered old new bytes = Grows old new bytes
WroteBy ReadFault old new bytes = ⊥
WroteBy WriteFault old new bytes = GrowsByFront old new bytes

abbrev pub SendsReply : Reply → Option (List ℕ) → Option (List ℕ) → NodeRun → Exchanged → Type 0
SendsReply reply old new run exchanged = TellsReply (WroteBy exchanged old new) reply run

-- the count of failed writes never falls, and has risen where a write failed
pub record BlamesWriting (before after : ℕ) (exchanged : Exchanged) : Type 0 where
  pub later : before ≤ after
  pub failed : exchanged ≡ WriteFault → Rose before after
  pub not_read : exchanged ≡ ReadFault → ⊥

-- ---- one connection

-- one was served, and the panel stands for the history and the ticks that this made
pub record HasServed (site : Site) (panel : ℕ) (kept : Retained) (history : List NodeMoment) (ticks : List TickBlock)
    (given back : ToldConn) (disks : Disks) (old run : NodeRun) (exchanged : Exchanged) : Type 0 where
  pub after : List NodeMoment
  pub next : List TickBlock
  pub exchanges : Exchanges site old.node.digest panel kept history given back exchanged after
  pub runs : RunsFor site panel kept after next run
  pub stores : Stores site kept (node_stored_old disks old) (node_stored_new disks run) ticks next
  pub few : length (moments next) ≤ length (moments ticks) + 2 ^ 17

abbrev pub ServesOne : ToldConn → ToldConn → Disks → NodeRun → NodeRun → Exchanged → Type 0
ServesOne given back disks old run exchanged =
    (site : Site) (panel : ℕ) (kept : Retained) (history : List NodeMoment) (ticks : List TickBlock)
    → RunsFor site panel kept history ticks old → HasRoomForTick ticks
    → HasServed site panel kept history ticks given back disks old run exchanged

-- the counts of a connection's faults never fall, and what is said to be a fault has raised its count
pub record BlamesConn (reads reads' writes writes' : ℕ) (exchanged : Exchanged) : Type 0 where
  pub reads_later : reads ≤ reads'
  pub writes_later : writes ≤ writes'
  pub read : exchanged ≡ ReadFault → Rose reads reads'
  pub write : exchanged ≡ WriteFault → Rose writes writes'
