use Rattle.std.proofs.Common.{◌≡◌, ◌≤◌, List, length}
use Rattle.site_types.specs.declared.retained.Retained.{Retained}
use Rattle.site_types.specs.declared.site.Site.{Site}
use Rattle.panel_rules.specs.Moments.{Moment, IsRun}
use Rattle.panel_rules.specs.Timeline.{faces_of}
use Rattle.panel_core.specs.Marks.{AreMarked, before_tick}
use Rattle.panel_core.specs.Stands.{StandsFor}
use Rattle.site_run.specs.AlikeFaces.{ShowAlike}
use Rattle.site_run.proofs.Faces.{ShowsFirst}
use Rattle.site_run.proofs.run.show_now.Given as goal

-- the first panels show what the rules say, and what is known of all of them is so
abbrev pub invariant-loop-place : goal.invariant-loop-place
invariant-loop-place l =
    record {
      room : length l.faces.items ≡ length l.initial.faces.items;
      within : l.place ≤ length l.initial.faces.items;
      shown : (site : Site) (kept : Retained) (before : List Moment) → StandsFor site kept before l.system → IsRun site.panels before
          → AreMarked site kept before l.system.changed → length l.initial.faces.items ≡ site.panels → l.shown ≡ faces_of site kept (before_tick before)
          → ShowsFirst site kept before l.place l.faces.items;
      alike : ShowAlike l.alike l.faces.items l.shown;
    }
