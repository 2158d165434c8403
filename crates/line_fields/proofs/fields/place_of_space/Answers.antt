use Rattle.std.proofs.Common.{sym, arith}
use Rattle.line_fields.proofs.Spaces.{at_space, no_space}
use Rattle.line_fields.proofs.fields.place_of_space.Goals as goal

pub returns-then-byte-eq32-clause-place : goal.returns-then-byte-eq32-clause-place
returns-then-byte-eq32-clause-place c =
    sym (at_space c.args.text.now c.loop-place.place c.loop-place-test.true c.loop-place.invariant c.if-byte-eq32.true)

pub returns-clause-place : goal.returns-clause-place
returns-clause-place c = sym (no_space c.args.text.now (λ j below. c.loop-place.invariant j (omega (arith, below, c.loop-place-test.false))))
