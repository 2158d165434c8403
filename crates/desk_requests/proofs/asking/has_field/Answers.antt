use Rattle.std.proofs.Common.{◌∙◌, sym, add-one}
use Rattle.httparse.specs.Borrowed.{header_parts}
use Rattle.desk_requests.proofs.FieldValues.{has_at, none_more}
use Rattle.desk_requests.proofs.asking.has_field.Goals as goal

pub returns-then-is_named : goal.returns-then-is_named
returns-then-is_named c =
    sym (has_at header_parts c.args.name.now c.args.fields.now c.loop-field.field-index _ c.loop-field-test.true (sym c.is_named.ensures ∙ c.if-is_named.true))

pub loop-field-preserved : goal.loop-field-preserved
loop-field-preserved c =
    rw add-one
    (none_more header_parts c.args.name.now c.args.fields.now c.loop-field.field-index _ c.loop-field-test.true c.loop-field.invariant
    (sym c.is_named.ensures ∙ c.if-is_named.false))
