-- What was written to a connection is what the rules answer.
use Rattle.std.proofs.Common.{◌≡◌, ◌∙◌, ℕ, List, [], ◌∷◌, sym, ap, subst}
use Rattle.face_text.specs.declared.answers.Answers.{Answers}
use Rattle.face_text.specs.declared.face.Face.{Face}
use Rattle.panel_frames.specs.Bytes.{frame_bytes}
use Rattle.panel_links.specs.declared.frame.Frame.{Frame}
use Rattle.panel_rules.specs.Moments.{IsRun, tick_of}
use Rattle.panel_rules.proofs.RecordRuns.{records_are_runs}
use Rattle.site_run.specs.Pages.{written_text}
use Rattle.site_types.specs.declared.retained.Retained.{Retained}
use Rattle.site_types.specs.declared.site.Site.{Site}
use Rattle.node_rules.specs.Histories.{NodeMoment, befallen}
use Rattle.node_rules.specs.Nodes.{node_face}
use Rattle.node_answers.specs.Exchanges.{at_tick_end, ticks_run}
use Rattle.panel_node.specs.Shown.{AnswersAsRuled, SendsFrame}
use Rattle.panel_node.specs.Stands.{NodeStandsFor}
use Rattle.node_desk.specs.Replies.{reply_bytes}
use Rattle.node_desk.specs.Serving.{TellsFrame, TellsReply, TellsTick}
use Rattle.node_desk.specs.declared.node_run.NodeRun.{NodeRun}
use Rattle.node_desk.specs.declared.reply.Reply.{Reply}

module _ (Wrote : List ℕ → Type 0) (run : NodeRun) where
  -- the frame of the panel
  pub tells_frame : (digest bytes : List ℕ) (frame : Frame) → SendsFrame run.node frame → digest ≡ run.node.digest → bytes ≡ frame_bytes digest frame
      → Wrote bytes → TellsFrame Wrote run
  tells_frame digest bytes frame sends same is wrote site panel kept history ticks h =
      let run_of = subst (IsRun site.panels) (sym h.befell) (records_are_runs site.panels ticks h.ordered).0 in
      subst Wrote
      (is ∙ ap (λ d. frame_bytes d frame) same ∙ ap (frame_bytes run.node.digest) (sends site panel kept history h.node run_of)) wrote

  -- the part of the tick that was run last
  pub tells_tick : (there : Site) (tick : ℕ) (before after : List Face) (answers : Answers)
      → ((site : Site) (panel : ℕ) (kept : Retained) (history : List NodeMoment) → NodeStandsFor site panel kept history run.node → there ≡ site)
      → ((site : Site) (panel : ℕ) (kept : Retained) (history : List NodeMoment) → NodeStandsFor site panel kept history run.node
      → tick ≡ tick_of (befallen history))
      → before ≡ run.before ∷ [] → after ≡ run.shown ∷ [] → AnswersAsRuled run.node answers
      → Wrote (written_text there tick before after answers) → TellsTick Wrote run
  tells_tick there tick before after answers sites ticks_are befores afters ruled wrote site panel kept old history ticks h hand =
      let shown = h.shown ∙ ap (λ hs. node_face site panel hs kept) hand.1 in
      let was = node_face site panel (at_tick_end old) kept ∷ [] in
      let now = node_face site panel history kept ∷ [] in
      subst Wrote
      (ap (λ s. written_text s tick before after answers) (sites site panel kept history h.node)
      ∙ ap (λ t. written_text site t before after answers) (ticks_are site panel kept history h.node)
      ∙ ap (λ fs. written_text site (ticks_run history) fs after answers) (befores ∙ ap (λ (f : Face). f ∷ []) hand.0)
      ∙ ap (λ fs. written_text site (ticks_run history) was fs answers) (afters ∙ ap (λ (f : Face). f ∷ []) shown)
      ∙ ap (λ told_so. written_text site (ticks_run history) was now told_so) (ruled site panel kept history h.node))
      wrote

  -- a line that is the same whatever befell
  pub tells_line : (reply : Reply) (bytes text : List ℕ) → bytes ≡ text
      → ((site : Site) (panel : ℕ) (kept : Retained) (digest : List ℕ) (before after : List NodeMoment)
      → text ≡ reply_bytes site panel kept digest before after reply) → Wrote bytes → TellsReply Wrote reply run
  tells_line reply bytes text is same wrote site panel kept before after ticks h hand =
      subst Wrote (is ∙ same site panel kept run.node.digest before after) wrote

  -- a reply of that kind
  pub tells_as : (one other : Reply) → one ≡ other → TellsReply Wrote other run → TellsReply Wrote one run
  tells_as one other e = subst (λ r. TellsReply Wrote r run) (sym e)
