-- The text of a run as it grows, tick by tick, the newest tick first.
use Rattle.std.specs.Prelude.{◌||◌, ℕ, not, List, [], ◌∷◌, ◌++◌, if◌then◌else◌}
use Rattle.site_types.specs.declared.retained.Retained.{Retained}
use Rattle.site_types.specs.declared.site.Site.{Site}
use Rattle.face_text.specs.Faces.{same_faces}
use Rattle.face_text.specs.Timelines.{empty_faces, faces_text, opening_line, step_text}
use Rattle.panel_rules.specs.Moments.{Moment, TickBlock, moments}
use Rattle.panel_rules.specs.Timeline.{faces_of, has_answer, step_of}

module _ (site : Site) (kept : Retained) where
  -- before the first tick: the site, and what is shown at opening
  abbrev pub opening_text : List ℕ
  opening_text = opening_line site ++ faces_text site (empty_faces site) (faces_of site kept [])

  -- a tick, of what had befallen before and after it: its step, where a face is another or something was
  -- answered, else nothing
  abbrev pub tick_text : List Moment → List Moment → List ℕ
  tick_text before after =
      if not (same_faces (faces_of site kept after) (faces_of site kept before)) || has_answer site kept after
      then step_text site (faces_of site kept before) (step_of site kept after) else []

  -- the text up to the end of the newest of some ticks
  abbrev pub text_so_far : List TickBlock → List ℕ
  text_so_far [] = opening_text
  text_so_far (tick ∷ ticks) = text_so_far ticks ++ tick_text (moments ticks) (moments (tick ∷ ticks))
