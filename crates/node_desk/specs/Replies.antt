-- What is replied to what came, and what of a panel at work by itself is left by it.
use Rattle.std.specs.Prelude.{◌≡◌, ◌+◌, ◌^◌, ◌≤◌, ℕ, Bool, List, length, Ok}
use Rattle.site_types.specs.declared.retained.Retained.{Retained}
use Rattle.site_types.specs.declared.site.Site.{Site}
use Rattle.panel_rules.specs.Moments.{TickBlock, moments}
use Rattle.site_run.specs.Outside.{Disks}
use Rattle.site_run.specs.Stands.{Stores}
use Rattle.desk_runs.specs.Ticks.{HasRoomForTick}
use Rattle.desk_ticks.specs.Blocks.{most_block_bytes}
use Rattle.node_inputs.specs.Inputs.{what_came}
use Rattle.node_inputs.specs.OwnBlocks.{own_verdict_of}
use Rattle.node_inputs.specs.declared.input.NodeInput.{NodeInput}
use Rattle.node_inputs.specs.declared.input.NodeInput.TheVariants.{Block}
use Rattle.node_rules.specs.Histories.{NodeMoment}
use Rattle.node_rules.specs.Nodes.{node_face}
use Rattle.node_answers.specs.Exchanges.{answer_to, at_tick_end, frame_told, history_behind, tick_part}
use Rattle.node_answers.specs.Lines.{other_tick_line, refused_block_line, refused_frame_line, too_long_line}
use Rattle.node_desk.specs.Running.{node_stored_new, node_stored_old}
use Rattle.node_desk.specs.Runs.{RunsFor}
use Rattle.node_desk.specs.declared.node_run.NodeRun.{NodeRun}
use Rattle.node_desk.specs.declared.reply.Reply.{Reply}
use Rattle.node_desk.specs.declared.reply.Reply.TheVariants.{Frame, BadFrame, Tick, OtherTick, BadBlock, TooLong}

module _ (site : Site) (panel : ℕ) (kept : Retained) where
  -- the bytes of a reply, with the digest of the site's file, by the histories before and after it
  abbrev pub reply_bytes : List ℕ → List NodeMoment → List NodeMoment → Reply → List ℕ
  reply_bytes digest before after Frame = frame_told site digest panel kept after
  reply_bytes digest before after (BadFrame refusal) = refused_frame_line refusal
  reply_bytes digest before after Tick = tick_part site digest panel kept before after
  reply_bytes digest before after (OtherTick expected found) = other_tick_line expected found
  reply_bytes digest before after (BadBlock refusal) = refused_block_line refusal
  reply_bytes digest before after TooLong = too_long_line

  -- what a reply needs is at hand: what was shown before the tick
  abbrev pub IsAtHand : List NodeMoment → List NodeMoment → Reply → NodeRun → Type 0
  IsAtHand before after Frame run = Unit {0}
  IsAtHand before after (BadFrame refusal) run = Unit {0}
  IsAtHand before after Tick run =
      (run.before ≡ node_face site panel (at_tick_end before) kept) × (at_tick_end after ≡ after)
  IsAtHand before after (OtherTick expected found) run = Unit {0}
  IsAtHand before after (BadBlock refusal) run = Unit {0}
  IsAtHand before after TooLong run = Unit {0}

  -- what came was replied to behind a history
  pub record HasReplied (digest : List ℕ) (history : List NodeMoment) (ticks : List TickBlock) (bytes : List ℕ)
      (came : NodeInput) (disks : Disks) (old : NodeRun) (reply : Reply) (run : NodeRun) : Type 0 where
    pub failed : Bool
    pub after : List NodeMoment
    pub next : List TickBlock
    pub history_is : after ≡ history_behind site failed bytes history came
    pub runs : RunsFor site panel kept after next run
    pub at_hand : IsAtHand history after reply run
    pub told : reply_bytes digest history after reply ≡ answer_to site digest panel kept history after came
    pub stores : Stores site kept (node_stored_old disks old) (node_stored_new disks run) ticks next
    pub few : length (moments next) ≤ length (moments ticks) + 2 ^ 17

-- what comes may be replied to
pub record MayReply (run : NodeRun) : Type 0 where
  pub site : Site
  pub panel : ℕ
  pub kept : Retained
  pub history : List NodeMoment
  pub ticks : List TickBlock
  pub runs : RunsFor site panel kept history ticks run
  pub room : HasRoomForTick ticks

abbrev pub RepliesTo : List ℕ → Disks → NodeRun → Reply → NodeRun → Type 0
RepliesTo bytes disks old reply run =
    (site : Site) (panel : ℕ) (kept : Retained) (history : List NodeMoment) (ticks : List TickBlock)
    → RunsFor site panel kept history ticks old → HasRoomForTick ticks
    → HasReplied site panel kept old.node.digest history ticks bytes
    (what_came site old.node.digest panel bytes) disks old reply run

-- a block that is accepted
pub record MayReplyToBlock (found : ℕ) (block : List ℕ) (run : NodeRun) : Type 0 where
  pub may : MayReply run
  pub accepted : own_verdict_of may.site may.panel block ≡ Ok found
  pub short : length block ≤ most_block_bytes

abbrev pub RepliesToBlock : ℕ → List ℕ → Disks → NodeRun → Reply → NodeRun → Type 0
RepliesToBlock found block disks old reply run =
    (site : Site) (panel : ℕ) (kept : Retained) (history : List NodeMoment) (ticks : List TickBlock)
    → RunsFor site panel kept history ticks old → HasRoomForTick ticks → own_verdict_of site panel block ≡ Ok found
    → HasReplied site panel kept old.node.digest history ticks block (Block found) disks old reply run
