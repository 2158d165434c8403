use Rattle.std.proofs.Common.{ℕ, ◌≤◌, ◌<◌, ◌+◌, ◌*◌, ◌^◌}
use Rattle.site_types.specs.declared.site.Site.{Site}
use Rattle.marker_table.specs.Equations.{values_of}
use Rattle.marker_table.specs.Table.{HasFacts, value_read}
use Rattle.cause_effect.specs.Solutions.{IsSolution}
use Rattle.cause_effect.specs.Stands.{IsPlanOf}
use Rattle.cause_effect.proofs.Changing.{AreCarried, AreEvaluated}
use Rattle.cause_effect.proofs.Passing.{AreLeft}
use Rattle.cause_effect.proofs.plan.Plan.solve_changed.Given as goal

abbrev pub invariant-loop-number : goal.invariant-loop-number
invariant-loop-number g l = record {
  has : HasFacts l.fn.after l.readings;
  carried : (site : Site) → IsPlanOf site l.self → IsSolution site l.fn.before (values_of l.values)
      → AreCarried site l.fn.before l.fn.after l.self.order (32 * l.number) (value_read l.readings);
  evaluated : (site : Site) → IsPlanOf site l.self
      → AreEvaluated site l.fn.before l.fn.after l.self.order (32 * l.number) l.initial.steps l.steps;
}

abbrev pub invariant-loop-left : goal.invariant-loop-left
invariant-loop-left g l = record {
  fits : l.left < 2 ^ 32;
  passed : ℕ;
  from : 32 * l.number ≤ passed;
  most : passed ≤ 32 * l.number + 32;
  are : AreLeft (values_of l.marks) (32 * l.number) passed l.left;
  has : HasFacts l.fn.after l.readings;
  carried : (site : Site) → IsPlanOf site l.self
      → AreCarried site l.fn.before l.fn.after l.self.order (32 * l.number) (value_read l.initial.readings)
      → AreCarried site l.fn.before l.fn.after l.self.order passed (value_read l.readings);
  evaluated : (site : Site) (start : ℕ) → IsPlanOf site l.self
      → AreEvaluated site l.fn.before l.fn.after l.self.order (32 * l.number) start l.initial.steps
      → AreEvaluated site l.fn.before l.fn.after l.self.order passed start l.steps;
}

abbrev pub decreases-loop-left : goal.decreases-loop-left
decreases-loop-left g l = l.left
