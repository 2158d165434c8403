-- What was replied to what came.
use Rattle.std.proofs.Common.{◌≡◌, ◌∙◌, ◌≤◌, ℕ, Bool, true, false, List, ◌∷◌, length, if◌then◌else◌, refl, sym, ap, subst, arith}
use Rattle.site_types.specs.declared.retained.Retained.{Retained}
use Rattle.site_types.specs.declared.site.Site.{Site}
use Rattle.panel_links.specs.declared.frame.Frame.{Frame}
use Rattle.retained_journal.specs.declared.journal.Journal.{Journal}
use Rattle.panel_core.specs.Keeping.{KeepsRun}
use Rattle.panel_rules.specs.Moments.{TickBlock, moments, tick_of}
use Rattle.run_text.proofs.TickTimes.{tick_moments}
use Rattle.site_run.specs.Outside.{Disks}
use Rattle.site_run.proofs.Cuts.{stores_same}
use Rattle.desk_runs.specs.Ticks.{is_next, tick_expected, tick_told}
use Rattle.node_inputs.specs.declared.input.NodeInput.{NodeInput}
use Rattle.node_inputs.specs.declared.input.NodeInput.TheVariants.{Framed, Block}
use Rattle.node_rules.specs.Histories.{NodeMoment, FrameCame}
use Rattle.node_answers.specs.Exchanges.{and_tick, answer_to, history_behind, tick_part, ticks_run}
use Rattle.node_answers.specs.Lines.{other_tick_line}
use Rattle.panel_node.specs.Changes.{TakesFrame}
use Rattle.node_desk.specs.Replies.{HasReplied, IsAtHand, reply_bytes}
use Rattle.node_desk.specs.Running.{RanBlock, node_stored_new, node_stored_old}
use Rattle.face_text.specs.Starts.{ArePassed}
use Rattle.node_desk.specs.Runs.{RunsFor}
use Rattle.node_desk.specs.declared.node_run.NodeRun.{NodeRun}
use Rattle.node_desk.specs.declared.reply.Reply.{Reply}
use Rattle.node_desk.specs.declared.reply.Reply.TheVariants as reply
use Rattle.node_desk.proofs.Befalling.{ends_tick}

module _ (site : Site) (panel : ℕ) (kept : Retained) (digest : List ℕ) (history : List NodeMoment) (ticks : List TickBlock) (bytes : List ℕ) (disks : Disks)
    (old : NodeRun) (h : RunsFor site panel kept history ticks old) where
  -- so many ticks were run
  pub ticks_are : ticks_run history ≡ length ticks
  ticks_are = ap tick_of h.befell ∙ tick_moments ticks

  -- what came changes nothing
  pub replied_nothing : (came : NodeInput) (told : Reply) → disks.new ≡ disks.old → history ≡ history_behind site false bytes history came
      → IsAtHand site panel kept history history told old
      → reply_bytes site panel kept digest history history told ≡ answer_to site digest panel kept history history came
      → HasReplied site panel kept digest history ticks bytes came disks old told old
  replied_nothing came told same behind hand is = record {
    failed = false;
    after = history;
    next = ticks;
    history_is = behind;
    runs = h;
    at_hand = hand;
    told = is;
    stores = stores_same {kind = disks.kind} site kept (node_stored_old disks old) (node_stored_new disks old) ticks same refl;
    few = omega arith;
  }

  -- a frame came
  pub replied_frame : (frame : Frame) (run : NodeRun) → disks.new ≡ disks.old → TakesFrame old.node frame run.node → run.panel ≡ old.panel
      → run.journal ≡ old.journal → run.shown ≡ old.shown → run.store_failures ≡ old.store_failures → run.starts ≡ old.starts
      → HasReplied site panel kept digest history ticks bytes (Framed frame) disks old reply.Frame run
  replied_frame frame run same takes own journal shown failures starts = record {
    failed = false;
    after = FrameCame frame ∷ history;
    next = ticks;
    history_is = refl;
    runs = record {
      node = takes site panel kept history h.node;
      own = own ∙ h.own;
      member = h.member;
      befell = h.befell;
      ordered = h.ordered;
      keeps = subst (KeepsRun site kept (moments ticks)) (sym journal) h.keeps;
      tried = subst (λ (j : Journal). j.tried ≤ length ticks) (sym journal) h.tried;
      shown = shown ∙ h.shown;
      failed = failures ∙ h.failed;
      few = h.few;
      starts = subst (ArePassed site) (sym starts) h.starts;
    };
    at_hand = tt;
    told = refl;
    stores = stores_same {kind = disks.kind} site kept (node_stored_old disks old) (node_stored_new disks run) ticks same journal;
    few = omega arith;
  }

  module _ (found : ℕ) where
    next_so : (b : Bool) → is_next found (length ticks) ≡ b → is_next found (ticks_run history) ≡ b
    next_so b e = ap (is_next found) ticks_are ∙ e

    -- the next tick was run
    pub replied_tick : (run : NodeRun) → is_next found (length ticks) ≡ true → RanBlock site panel kept history ticks bytes disks old run
        → HasReplied site panel kept digest history ticks bytes (Block found) disks old reply.Tick run
    replied_tick run next ran =
        let so = sym (next_so true next) in
        let after = and_tick site ran.failed bytes history in
        record {
          failed = ran.failed;
          after = after;
          next = tick_told site ran.failed bytes ∷ ticks;
          history_is = ap (λ b. if b then after else history) so;
          runs = ran.runs;
          at_hand = (ran.before ∙ h.shown, ends_tick (tick_told site ran.failed bytes) history);
          told =
              ap (λ b. if b then tick_part site digest panel kept history after else other_tick_line (tick_expected (ticks_run history)) found) so;
          stores = ran.stores;
          few = ran.few;
        }

    -- it is another tick
    pub replied_other : disks.new ≡ disks.old → is_next found (length ticks) ≡ false
        → HasReplied site panel kept digest history ticks bytes (Block found) disks old (reply.OtherTick (tick_expected (length ticks)) found) old
    replied_other same other =
        let so = sym (next_so false other) in
        replied_nothing (Block found) (reply.OtherTick (tick_expected (length ticks)) found) same
        (ap (λ b. if b then and_tick site false bytes history else history) so) tt
        (ap (λ n. other_tick_line (tick_expected n) found) (sym ticks_are)
        ∙ ap (λ b. if b then tick_part site digest panel kept history history else other_tick_line (tick_expected (ticks_run history)) found) so)
