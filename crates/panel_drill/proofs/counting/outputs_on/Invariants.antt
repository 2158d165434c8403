use Rattle.std.proofs.Common.{◌≡◌, ◌≤◌, List, take}
use Rattle.std.specs.List.{count_by}
use Rattle.site_types.specs.declared.site.Site.{Site}
use Rattle.site_types.specs.Changes.{nothing_retained}
use Rattle.panel_rules.specs.Moments.{Moment, IsRun}
use Rattle.panel_core.specs.Stands.{StandsFor}
use Rattle.panel_drill.specs.Counting.{shows_own_output}
use Rattle.panel_drill.proofs.counting.outputs_on.Given as goal

-- the first outputs were counted
abbrev pub invariant-loop-output : goal.invariant-loop-output
invariant-loop-output l = record {
  few : l.count ≤ l.output-index;
  counted : (site : Site) (before : List Moment) → StandsFor site nothing_retained before l.system → IsRun site.panels before
      → l.count ≡ count_by (shows_own_output site before) (take l.output-index site.outputs);
}
