use Rattle.line_fields.proofs.Spaces.{field_on}
use Rattle.line_fields.proofs.fields.field.Goals as goal

pub loop-passed-preserved : goal.loop-passed-preserved
loop-passed-preserved c =
    field_on c.args.place c.loop-passed._passed c.loop-passed.rest.now c.after_space-rest.result.now _ c.loop-passed-test.true
    c.after_space-rest.ensures c.loop-passed.invariant
