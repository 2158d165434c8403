-- What a panel by itself hands to its neighbours.
use Rattle.std.proofs.Common.{◌≡◌, ◌≤◌, ◌<◌, ◌^◌, ◌==◌, ◌∙◌, ℕ, true, List, if◌then◌else◌, sym, ap, subst, arith, lit<}
use Rattle.tick_units.specs.Ticks.{last_tick}
use Rattle.site_types.specs.declared.retained.Retained.{Retained}
use Rattle.site_types.specs.declared.site.Site.{Site}
use Rattle.site_types.specs.declared.word.Word.{Word}
use Rattle.kept_words.specs.Arrivals.{word_kept}
use Rattle.kept_words.specs.Kept.{TellsFrame}
use Rattle.node_rules.specs.Histories.{NodeMoment, befallen, frames_in}
use Rattle.node_rules.specs.Nodes.{node_frame}
use Rattle.node_rules.proofs.OwnFrames.{own_frames}
use Rattle.panel_frames.specs.Grammar.{IsFrame, is_neighbour}
use Rattle.panel_links.specs.declared.frame.Frame.{Frame}
use Rattle.panel_links.specs.Frames.{frame_of}
use Rattle.panel_parts.specs.Applied.{applied}
use Rattle.panel_rules.specs.Moments.{IsRun, tick_of}
use Rattle.panel_node.specs.declared.node.Node.{Node}
use Rattle.panel_node.specs.Stands.{NodeStandsFor}
use Rattle.panel_node.specs.Told.{arrived}
use Rattle.panel_node.proofs.HandedNow.{own_now}

module _ (site : Site) (panel : ℕ) (kept : Retained) (history : List NodeMoment) (node : Node) (h : NodeStandsFor site panel kept history node) where
  pub frame_is : (frame : Frame) → TellsFrame node.words node.tick.0 frame → frame ≡ node_frame site panel history kept
  frame_is frame tells =
      tells site.panels panel (arrived site kept (applied site kept (befallen history)) panel history) h.words
      ∙ ap (frame_of site.panels (λ of. word_kept panel of (arrived site kept (applied site kept (befallen history)) panel history)) panel) h.tick
      ∙ ap (λ (own : Word). frame_of site.panels (λ of. if of == panel then own else word_kept panel of (frames_in history)) panel (tick_of (befallen history)))
      (sym (own_now site kept panel history))

  pub frame_ok : IsRun site.panels (befallen history) → (frame : Frame) → TellsFrame node.words node.tick.0 frame → (at : ℕ)
      → tick_of (befallen history) ≤ last_tick → is_neighbour site.panels at panel ≡ true → IsFrame site at frame
  frame_ok run frame tells at few next =
      let small : last_tick < 2 ^ 64 = lit< tt in
      subst (IsFrame site at) (sym (frame_is frame tells))
      (own_frames site kept panel at history h.valid h.parts.member run (omega (arith, few, small)) h.frames next)
