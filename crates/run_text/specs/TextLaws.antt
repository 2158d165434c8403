-- The text that grows tick by tick is the text of the run, and so of a timeline that is in form.
use Rattle.std.specs.Prelude.{◌≡◌, ℕ, List, ◌++◌, length}
use Rattle.site_types.specs.declared.retained.Retained.{Retained}
use Rattle.site_types.specs.declared.site.Site.{Site}
use Rattle.face_text.specs.Timelines.{IsInForm, end_line, text_of}
use Rattle.panel_rules.specs.Moments.{TickBlock, moments}
use Rattle.panel_rules.specs.Timeline.{text_of_run, timeline_of}
use Rattle.panel_laws.specs.FormLaws.{CanBeTold}
use Rattle.run_text.specs.SoFar.{text_so_far}

-- the text after some ticks and the last line
abbrev pub whole_text : Site → Retained → List TickBlock → List ℕ
whole_text site kept ticks = text_so_far site kept ticks ++ end_line (length ticks)

-- the text after the ticks of a run and the last line are the text of the run, whatever its ticks
abbrev pub TextIsWhole : Type 0
TextIsWhole =
    (site : Site) (kept : Retained) (ticks : List TickBlock)
    → whole_text site kept ticks ≡ text_of_run site kept (moments ticks)

-- where a run can be told its timeline is in form, and the text after its ticks and the last line are the text of that
-- timeline
abbrev pub TimelineIsOfRun : Type 0
TimelineIsOfRun =
    (site : Site) (kept : Retained) (ticks : List TickBlock) → CanBeTold site kept (moments ticks)
    → IsInForm site (timeline_of site kept (moments ticks))
    × (whole_text site kept ticks ≡ text_of site (timeline_of site kept (moments ticks)))
