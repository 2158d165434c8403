-- A panel that runs by itself: what it is handed are the newest words of the frames that came, and no report tells it
-- of a link.
use Rattle.std.specs.Prelude.{ℕ, ◌==◌, not, Bool, List, length, if◌then◌else◌}
use Rattle.site_types.specs.declared.retained.Retained.{Retained}
use Rattle.site_types.specs.declared.site.Site.{Site}
use Rattle.site_types.specs.declared.word.Word.{Word}
use Rattle.site_types.specs.Done.{Done}
use Rattle.site_types.specs.Profile.{silent_of}
use Rattle.face_text.specs.declared.face.Face.{Face}
use Rattle.panel_links.specs.declared.frame.Frame.{Frame}
use Rattle.panel_links.specs.Frames.{frame_of}
use Rattle.panel_rules.specs.Batches.{kept_after}
use Rattle.panel_rules.specs.Moments.{Moment, tick_of}
use Rattle.panel_rules.specs.Operations.{operations}
use Rattle.kept_words.specs.Arrivals.{counts_as_down, word_kept}
use Rattle.node_rules.specs.Handed.{own_kept, own_tells}
use Rattle.node_rules.specs.Histories.{NodeMoment, frames_in, befallen, part_until}
use Rattle.node_rules.specs.Shown.{handed_face}

module _ (site : Site) (panel : ℕ) (history : List NodeMoment) where
  -- the word of another panel that it keeps at a turn made when these moments had befallen
  abbrev pub node_words : List Moment → ℕ → Word
  node_words before source = word_kept panel source (frames_in (part_until (length before) history))

  -- a link counts as up at such a turn: a frame came over it of late
  abbrev pub node_up : List Moment → ℕ → Bool
  node_up before link =
      not (counts_as_down site.panels panel (frames_in (part_until (length before) history)) (tick_of before)
      (silent_of site.format) link)

  module _ (kept : Retained) where
    -- the operations that were done
    abbrev pub node_done : List Done
    node_done = (operations site kept (befallen history)).done

    -- the face of the panel
    abbrev pub node_face : Face
    node_face =
        handed_face site kept node_done panel node_words node_up (λ source. word_kept panel source (frames_in history))
        (kept_after site kept (befallen history)) (befallen history)

    -- the word of a panel that it keeps now, its own too
    abbrev pub node_word : ℕ → Word
    node_word source =
        if source == panel
        then own_kept site kept node_done panel node_words node_up
        (own_tells site kept node_done panel node_words node_up) (befallen history)
        else word_kept panel source (frames_in history)

    -- what it hands to its neighbours: the words of the group that its latest tick carries
    abbrev pub node_frame : Frame
    node_frame = frame_of site.panels node_word panel (tick_of (befallen history))
