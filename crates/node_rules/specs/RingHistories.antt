-- What befalls a panel by itself whose frames are those that the ring would hand it: at each of its turns of Link one
-- of each neighbour over a link that is up, with the words that this neighbour keeps.
use Rattle.std.specs.Prelude.{ℕ, ◌==◌, ◌&&◌, nat_lt, Bool, List, [], ◌∷◌, if◌then◌else◌}
use Rattle.tick_units.specs.declared.task.Task.TheVariants.{Link}
use Rattle.site_types.specs.declared.retained.Retained.{Retained}
use Rattle.site_types.specs.declared.site.Site.{Site}
use Rattle.site_types.specs.Done.{Done}
use Rattle.panel_links.specs.declared.frame.Frame.{Frame}
use Rattle.panel_links.specs.Frames.{frame_of}
use Rattle.panel_links.specs.Words.{left_of, right_of}
use Rattle.panel_rules.specs.Moments.{Moment, Began, Happened, Turned, Kept, tick_of}
use Rattle.panel_rules.specs.States.{is_up}
use Rattle.panel_rules.specs.Words.{kept_word_of}
use Rattle.node_rules.specs.Histories.{Befell, FrameCame, NodeMoment}

-- a frame comes, if it comes
abbrev pub and_frame : Bool → Frame → List NodeMoment → List NodeMoment
and_frame comes frame before = if comes then FrameCame frame ∷ before else before

module _ (site : Site) (kept : Retained) (done : List Done) (told : ℕ → List Moment → Bool) (panel : ℕ) where
  -- the frame that a neighbour would send now
  abbrev pub ring_frame : ℕ → List Moment → Frame
  ring_frame neighbour before =
      frame_of site.panels (λ source. kept_word_of site kept done told neighbour source before) neighbour
      (tick_of before)

  -- the frames of a turn of Link made now: that of the neighbour on the left first
  abbrev pub and_ring_frames : List Moment → List NodeMoment → List NodeMoment
  and_ring_frames before history =
      and_frame (nat_lt 1 site.panels && is_up panel before) (ring_frame (right_of site.panels panel) before)
      (and_frame (nat_lt 1 site.panels && is_up (left_of site.panels panel) before)
      (ring_frame (left_of site.panels panel) before) history)

  -- the history of the panel along a run
  abbrev pub ring_history : List Moment → List NodeMoment
  ring_history [] = []
  ring_history (Began ∷ before) = Befell Began ∷ ring_history before
  ring_history (Happened event ∷ before) = Befell (Happened event) ∷ ring_history before
  ring_history (Turned other Link ∷ before) =
      if other == panel then and_ring_frames before (Befell (Turned other Link) ∷ ring_history before)
      else Befell (Turned other Link) ∷ ring_history before
  ring_history (Turned other task ∷ before) = Befell (Turned other task) ∷ ring_history before
  ring_history (Kept failed ∷ before) = Befell (Kept failed) ∷ ring_history before
