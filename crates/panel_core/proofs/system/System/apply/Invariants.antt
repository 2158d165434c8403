use Rattle.std.proofs.Common.{◌≡◌, List, length}
use Rattle.site_types.specs.declared.retained.Retained.{Retained}
use Rattle.site_types.specs.declared.site.Site.{Site}
use Rattle.site_types.specs.Done.{Done}
use Rattle.operation_desk.specs.Requests.{done_from}
use Rattle.panel_rules.specs.Moments.{Moment}
use Rattle.panel_parts.specs.Applied.{MayBeApplied}
use Rattle.panel_core.specs.Stands.{HasApplied}
use Rattle.panel_core.proofs.Begun.{PartlyApplied}
use Rattle.panel_core.proofs.system.System.apply.Given as goal

-- the operation came in force at the first panels
abbrev pub invariant-loop-before : goal.invariant-loop-before
invariant-loop-before l =
    record {
      site : l.self.site ≡ l.fn.self.site;
      tick : l.self.tick ≡ l.fn.self.tick;
      desk : l.self.desk ≡ l.fn.self.desk;
      counts : l.self.counts ≡ l.fn.self.counts;
      plan : l.self.plan ≡ l.fn.self.plan;
      ring : l.self.ring ≡ l.fn.self.ring;
      settings : l.self.settings ≡ l.fn.self.settings;
      count : length l.self.panels.items ≡ length l.fn.self.panels.items;
      partly : (site : Site) (kept : Retained) (before : List Moment) (done : List Done) → HasApplied site kept before done l.fn.self
          → MayBeApplied site before done (done_from l.fn.self.tick.0 l.done)
          → PartlyApplied site kept before done (done_from l.fn.self.tick.0 l.done) l.before l.self.panels.items;
    }
