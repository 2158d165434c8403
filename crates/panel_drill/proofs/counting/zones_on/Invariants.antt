use Rattle.std.proofs.Common.{◌≡◌, ◌≤◌, List, take}
use Rattle.std.specs.List.{count_by}
use Rattle.site_types.specs.declared.site.Site.{Site}
use Rattle.site_types.specs.Changes.{nothing_retained}
use Rattle.panel_rules.specs.Moments.{Moment, IsRun}
use Rattle.panel_core.specs.Stands.{StandsFor}
use Rattle.panel_drill.specs.Counting.{shows_own_alarm}
use Rattle.panel_drill.proofs.counting.zones_on.Given as goal

-- the first zones were counted
abbrev pub invariant-loop-zone : goal.invariant-loop-zone
invariant-loop-zone l = record {
  few : l.count ≤ l.zone-index;
  counted : (site : Site) (before : List Moment) → StandsFor site nothing_retained before l.system → IsRun site.panels before
      → l.count ≡ count_by (shows_own_alarm site before) (take l.zone-index site.zones);
}
