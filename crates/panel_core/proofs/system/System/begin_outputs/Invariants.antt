use Rattle.std.proofs.Common.{◌≡◌, List, length}
use Rattle.site_types.specs.declared.retained.Retained.{Retained}
use Rattle.site_types.specs.declared.site.Site.{Site}
use Rattle.operation_desk.specs.Stands.{DesksFor}
use Rattle.panel_rules.specs.Moments.{Moment}
use Rattle.panel_parts.specs.Applied.{done_so_far}
use Rattle.panel_core.specs.Changes.{HasSameDesk}
use Rattle.panel_core.specs.Stands.{HasApplied}
use Rattle.panel_core.proofs.Begun.{PartlyBegun}
use Rattle.panel_core.proofs.system.System.begin_outputs.Given as goal

-- the outputs of the first panels took what was done
abbrev pub invariant-loop-before : goal.invariant-loop-before
invariant-loop-before l =
    record {
      site : l.self.site ≡ l.fn.self.site;
      settings : l.self.settings ≡ l.fn.self.settings;
      same : HasSameDesk l.fn.self l.self;
      count : length l.self.panels.items ≡ length l.fn.self.panels.items;
      partly : (site : Site) (kept : Retained) (before : List Moment) → HasApplied site kept before (done_so_far site kept before) l.fn.self
          → DesksFor site kept before l.fn.self.desk
          → PartlyBegun site kept before (done_so_far site kept before) l.before l.self.panels.items;
    }
