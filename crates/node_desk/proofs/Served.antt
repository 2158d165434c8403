-- What came of one connection.
use Rattle.std.proofs.Common.{◌≡◌, ◌∙◌, ℕ, Bool, List, refl, sym, ap, subst, arith}
use Rattle.desk_doors.specs.Doors.{ToldConn}
use Rattle.node_answers.specs.Exchanges.{Exchange, Exchanges, answer_to, history_behind}
use Rattle.node_answers.specs.declared.exchanged.Exchanged.{Exchanged}
use Rattle.node_answers.specs.declared.exchanged.Exchanged.TheVariants.{Answered, ReadFault, WriteFault}
use Rattle.node_inputs.specs.Inputs.{what_came}
use Rattle.node_inputs.specs.Reading.{ReadsInput}
use Rattle.node_rules.specs.Histories.{NodeMoment}
use Rattle.panel_edges.specs.Contents.{Grows, GrowsByFront}
use Rattle.panel_edges.specs.declared.sound_memory_sink.SoundMemorySink.{SoundMemorySink}
use Rattle.panel_rules.specs.Moments.{TickBlock}
use Rattle.site_run.specs.Outside.{Disks}
use Rattle.site_run.specs.Stands.{Stores}
use Rattle.site_run.proofs.Cuts.{stores_same}
use Rattle.site_types.specs.declared.retained.Retained.{Retained}
use Rattle.site_types.specs.declared.site.Site.{Site}
use Rattle.node_desk.specs.Replies.{HasReplied, reply_bytes}
use Rattle.node_desk.specs.Running.{node_stored_new, node_stored_old}
use Rattle.node_desk.specs.Runs.{RunsFor}
use Rattle.node_desk.specs.Serving.{HasServed, WroteBy}
use Rattle.node_desk.specs.declared.node_run.NodeRun.{NodeRun}
use Rattle.node_desk.specs.declared.reply.Reply.{Reply}

module _ (site : Site) (panel : ℕ) (kept : Retained) where
  -- it stands for the same whatever is on its page
  same_but_page : (history : List NodeMoment) (ticks : List TickBlock) (run : NodeRun) (page : SoundMemorySink)
      → RunsFor site panel kept history ticks run → RunsFor site panel kept history ticks (record run { page = page })
  same_but_page history ticks run page h = record {
    node = h.node;
    own = h.own;
    member = h.member;
    befell = h.befell;
    ordered = h.ordered;
    keeps = h.keeps;
    tried = h.tried;
    shown = h.shown;
    failed = h.failed;
    few = h.few;
    starts = h.starts;
  }

  module _ (digest : List ℕ) (history after : List NodeMoment) (given back : ToldConn) (bytes : List ℕ) (failed : Bool) (read :
      ReadsInput given.unread back.unread bytes) (is : after ≡ history_behind site failed bytes history (what_came site digest panel bytes)) where
    exchange : (Wrote : List ℕ → Type 0) → Wrote (answer_to site digest panel kept history after (what_came site digest panel bytes))
        → Exchange site digest panel kept Wrote history given back after
    exchange Wrote wrote = record { bytes = bytes; read = read; failed = failed; history = is; wrote = wrote }

    -- what came was answered, or a front of the answer was written
    exchanges_so : (exchanged : Exchanged)
        → WroteBy exchanged given.answer back.answer (answer_to site digest panel kept history after (what_came site digest panel bytes))
        → Exchanges site digest panel kept history given back exchanged after
    exchanges_so Answered wrote = exchange (Grows given.answer back.answer) wrote
    exchanges_so ReadFault wrote = absurd wrote
    exchanges_so WriteFault wrote = exchange (GrowsByFront given.answer back.answer) wrote

  module _ (history : List NodeMoment) (ticks : List TickBlock) (given back : ToldConn) (disks : Disks) (old : NodeRun) where
    -- what was read was replied to, and the reply was sent
    pub served_so : (bytes room : List ℕ) (mid run : NodeRun) (reply : Reply) (exchanged : Exchanged) (page : SoundMemorySink)
        → ReadsInput given.unread back.unread room → bytes ≡ room
        → (replied : HasReplied site panel kept old.node.digest history ticks bytes (what_came site old.node.digest panel bytes) disks old reply mid)
        → mid.node.digest ≡ old.node.digest
        → WroteBy exchanged given.answer back.answer (reply_bytes site panel kept mid.node.digest history replied.after reply)
        → run ≡ record mid { page = page } → HasServed site panel kept history ticks given back disks old run exchanged
    served_so bytes room mid run reply exchanged page read same replied digest wrote rest =
        let told =
        subst (WroteBy exchanged given.answer back.answer)
        (ap (λ d. reply_bytes site panel kept d history replied.after reply) digest ∙ replied.told) wrote in
        record {
          after = replied.after;
          next = replied.next;
          exchanges =
              exchanges_so old.node.digest history replied.after given back bytes replied.failed (subst (ReadsInput given.unread back.unread) (sym same) read)
              replied.history_is exchanged told;
          runs = subst (RunsFor site panel kept replied.after replied.next) (sym rest) (same_but_page replied.after replied.next mid page replied.runs);
          stores =
              subst (λ (r : NodeRun). Stores site kept {kind = disks.kind} (node_stored_old disks old) (node_stored_new disks r) ticks replied.next) (sym rest)
              replied.stores;
          few = replied.few;
        }

    -- a read failed
    pub served_not : disks.new ≡ disks.old → RunsFor site panel kept history ticks old → back.answer ≡ given.answer
        → HasServed site panel kept history ticks given back disks old old ReadFault
    served_not same h written = record {
      after = history;
      next = ticks;
      exchanges = (refl, written);
      runs = h;
      stores = stores_same {kind = disks.kind} site kept (node_stored_old disks old) (node_stored_new disks old) ticks same refl;
      few = omega arith;
    }
