use Rattle.std.proofs.Common.{◌≡◌, ◌&&◌, ℕ, take}
use Rattle.site_types.specs.declared.site.Site.{Site}
use Rattle.marker_table.specs.Equations.{values_of}
use Rattle.cause_effect.specs.Cycles.{is_among}
use Rattle.cause_effect.specs.Stands.{IsPlanOf}
use Rattle.cause_effect.proofs.Depths.{the_values}
use Rattle.cause_effect.proofs.plan.Plan.solve_in_order.Given as goal

abbrev pub invariant-loop-marker : goal.invariant-loop-marker
invariant-loop-marker g l = (site : Site) → IsPlanOf site l.self → (m : ℕ)
    → values_of l.values m ≡ (is_among m (take l.marker-index l.self.order) && the_values site l.facts m)
