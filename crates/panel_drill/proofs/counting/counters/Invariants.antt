use Rattle.std.proofs.Common.{◌≡◌, ◌*◌, ◌^◌, ◌≤◌, List, map}
use Rattle.std.specs.List.{range_with_len}
use Rattle.std.specs.Prelude.{sum}
use Rattle.site_types.specs.declared.site.Site.{Site}
use Rattle.site_types.specs.Changes.{nothing_retained}
use Rattle.panel_rules.specs.Moments.{Moment, IsRun}
use Rattle.panel_core.specs.Stands.{StandsFor}
use Rattle.panel_drill.specs.Counting.{counter_of}
use Rattle.panel_drill.proofs.counting.counters.Given as goal

-- the counters of the first panels were added
abbrev pub invariant-loop-before : goal.invariant-loop-before
invariant-loop-before l = record {
  few : l.sum ≤ 2 ^ 32 * l.before;
  added : (site : Site) (before : List Moment) → StandsFor site nothing_retained before l.system → IsRun site.panels before
      → l.sum ≡ sum (map (counter_of site before) (range_with_len 1 l.before));
}
