use Rattle.std.proofs.Common.{◌∙◌, sym}
use Rattle.httparse.specs.Borrowed.{header_parts}
use Rattle.desk_requests.specs.Asked.{length_name}
use Rattle.desk_requests.proofs.FieldValues.{named_again}
use Rattle.desk_requests.proofs.body_length.body_length.Goals as goal

pub returns-then-is_some-clause-value : goal.returns-then-is_some-clause-value
returns-then-is_some-clause-value c =
    named_again (λ s. s.now) header_parts length_name c.args.fields.now c.loop-field.field-index _ c.loop-field.found c.loop-field-test.true
    (sym c.is_some.ensures ∙ c.if-is_some.true) c.loop-field.invariant (sym c.is_named.ensures ∙ c.if-is_named.true)
