use Rattle.marker_table.specs.Equations.{values_of}
use Rattle.cause_effect.proofs.Asking.{asked_known, no_marker_asks}
use Rattle.cause_effect.proofs.asked.asked_by.Goals as goal

pub returns-then-is_none : goal.returns-then-is_none
returns-then-is_none c =
    no_marker_asks (values_of c.args.values.now) c.args.outputs.now (c.is_none.ensures.0 c.if-is_none.true)

pub returns : goal.returns
returns c =
    asked_known (values_of c.args.values.now) c.args.outputs.now c.loop-output.asked c.loop-output.output-index
    c.loop-output.invariant.fits c.loop-output-test.false c.loop-output.invariant.asked
