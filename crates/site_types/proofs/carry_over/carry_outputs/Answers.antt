use Rattle.std.proofs.Common.{true, sym, ◌∙◌}
use Rattle.site_types.specs.declared.output.Output.{Output as OutputPlan}
use Rattle.site_types.specs.declared.change.Change.TheVariants.{Output}
use Rattle.site_types.specs.Carry.{output_was_off}
use Rattle.site_types.proofs.Carried.{carried_on, carried_off}
use Rattle.site_types.proofs.carry_over.carry_outputs.Goals as goal
use Rattle.site_types.proofs.carry_over.carry_outputs.Goals.{then-was_restricted, else-was_restricted}

pub loop-output-preserved : goal.loop-output-preserved
loop-output-preserved c =
    elim c.if-was_restricted.branch [
      | then-was_restricted w ↦
          w.kept-is
          ∙ carried_on (λ (x : OutputPlan). Output x.panel x.number true)
          (λ (x : OutputPlan). output_was_off c.args.old.now c.args.state.now x.name.bytes) c.as_slice-output-items.result.now
          c.args.new.now.outputs c.loop-output.output-index c.output-item.result c.args.kept.now c.loop-output.kept w.apply.new.self
          c.as_slice-output-items.ensures c.loop-output-test.true c.output-item.is (sym c.was_restricted.ensures ∙ w.if-was_restricted.true)
          c.loop-output.invariant w.apply.ensures
      | else-was_restricted w ↦
          w.kept-is
          ∙ carried_off (λ (x : OutputPlan). Output x.panel x.number true)
          (λ (x : OutputPlan). output_was_off c.args.old.now c.args.state.now x.name.bytes) c.as_slice-output-items.result.now
          c.args.new.now.outputs c.loop-output.output-index c.output-item.result c.args.kept.now c.loop-output.kept
          c.as_slice-output-items.ensures c.loop-output-test.true c.output-item.is (sym c.was_restricted.ensures ∙ w.if-was_restricted.false)
          c.loop-output.invariant
    ]
