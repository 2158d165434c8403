use Rattle.std.proofs.Common.{◌≤◌, length, subst}
use Rattle.marker_table.specs.Equations.{values_of}
use Rattle.cause_effect.proofs.Solving.{solved_on, all_solved}
use Rattle.cause_effect.proofs.plan.Plan.solve_in_order.Goals as goal

pub loop-marker-init : goal.loop-marker-init
loop-marker-init g c site is m = c.requires.none m

pub loop-marker-preserved : goal.loop-marker-preserved
loop-marker-preserved g c site is =
    solved_on site c.args.facts.now c.args.self.now.order c.as_slice-marker-items.result.now (values_of c.loop-marker.values) (values_of c.set.new.self)
    c.loop-marker.marker-index c.evaluate-value.result c.as_slice-marker-items.ensures is.order c.loop-marker-test.true
    (record { this = c.set.ensures.this; others = c.set.ensures.others })
    (c.loop-marker.invariant site is) (c.evaluate-value.ensures.equation site is.table)

pub returns : goal.returns
returns g c site is =
    all_solved site c.args.facts.now c.args.self.now.order c.loop-marker.marker-index (values_of c.loop-marker.values) is.order
    (subst (λ xs. length xs ≤ c.loop-marker.marker-index) c.as_slice-marker-items.ensures c.loop-marker-test.false)
    (c.loop-marker.invariant site is)
