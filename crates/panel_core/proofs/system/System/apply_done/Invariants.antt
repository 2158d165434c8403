use Rattle.std.proofs.Common.{◌∷◌, List}
use Rattle.site_types.specs.declared.retained.Retained.{Retained}
use Rattle.site_types.specs.declared.site.Site.{Site}
use Rattle.panel_rules.specs.Moments.{Moment, Began, IsRun}
use Rattle.panel_core.specs.Changes.{HasSameDesk}
use Rattle.panel_core.specs.Stands.{HasApplied, StandsFor}
use Rattle.panel_parts.proofs.TickDone.{so_many}
use Rattle.panel_core.proofs.system.System.apply_done.Given as goal

-- so many of those that were done in the tick came in force
abbrev pub invariant-loop-place : goal.invariant-loop-place
invariant-loop-place l =
    record {
      same : HasSameDesk l.fn.self l.self;
      applied : (site : Site) (kept : Retained) (before : List Moment) (h : StandsFor site kept before l.fn.self)
          (run : IsRun site.panels (Began ∷ before)) → HasApplied site kept before (so_many site kept before l.fn.self.desk h.desk l.place) l.self;
    }
