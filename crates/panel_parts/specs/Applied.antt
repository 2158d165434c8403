-- Which operations are in force: those that were done before the tick that began last.
use Rattle.std.specs.Prelude.{◌≡◌, true, nat_lt, List, filter}
use Rattle.site_types.specs.declared.retained.Retained.{Retained}
use Rattle.site_types.specs.declared.site.Site.{Site}
use Rattle.site_types.specs.Done.{Done}
use Rattle.site_types.specs.Events.{has_operands}
use Rattle.coincidence_rules.specs.Applied.{MayBeDone}
use Rattle.panel_rules.specs.Moments.{Moment, IsRun, IsPanel, tick_of}
use Rattle.panel_rules.specs.Operations.{operations}

-- all that was done so far
abbrev pub done_so_far : Site → Retained → List Moment → List Done
done_so_far site kept before = (operations site kept before).done

-- of all that was done so far, what was done before the tick that began last
abbrev pub applied : Site → Retained → List Moment → List Done
applied site kept before = filter (λ (d : Done). nat_lt d.tick (tick_of before)) (done_so_far site kept before)

-- an operation of the site that was done in the tick that ends comes in force, after these
pub record MayBeApplied (site : Site) (before : List Moment) (done : List Done) (d : Done) : Type 0 where
  pub run : IsRun site.panels before
  pub at : IsPanel site.panels d.panel
  pub now : d.tick ≡ tick_of before
  pub has : has_operands site d.panel d.operation ≡ true
  pub next : MayBeDone d.panel done d.operation d.tick
