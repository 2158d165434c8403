-- The text of a run shows after each tick what the run shows then, and is as long as the record.
use Rattle.std.specs.Prelude.{◌≡◌, ◌≤◌, ℕ, List, [], length}
use Rattle.site_types.specs.declared.retained.Retained.{Retained}
use Rattle.site_types.specs.declared.site.Site.{Site}
use Rattle.panel_rules.specs.Moments.{IsPanel, TickBlock, moments, up_to}
use Rattle.panel_rules.specs.Timeline.{face_of, faces_of, timeline_of}
use Rattle.run_text.specs.Failures.{as_recorded}
use Rattle.audit_rules.specs.Shown.{face_told_after, faces_after}

-- the faces after a tick are those of the run up to the end of that tick, also where the tick has no step
abbrev pub FacesAreTold : Type 0
FacesAreTold =
    (site : Site) (kept : Retained) (ticks : List TickBlock) (tick : ℕ) → tick ≤ length ticks
    → faces_after tick (faces_of site kept []) (timeline_of site kept (moments ticks)).steps
    ≡ faces_of site kept (up_to tick (moments ticks))

-- by a run's text each panel of the site has, after each tick, the face that it had then in the run
abbrev pub FaceIsTold : Type 0
FaceIsTold =
    (site : Site) (kept : Retained) (ticks : List TickBlock) (tick panel : ℕ) → tick ≤ length ticks
    → IsPanel site.panels panel
    → face_told_after (timeline_of site kept (moments ticks)) panel tick
    ≡ face_of site kept panel (up_to tick (moments ticks))

-- the timeline ends with the last tick of the record
abbrev pub LengthIsTold : Type 0
LengthIsTold = (site : Site) (kept : Retained) (ticks : List TickBlock)
    → (timeline_of site kept (moments ticks)).last.0 ≡ length (as_recorded ticks)
