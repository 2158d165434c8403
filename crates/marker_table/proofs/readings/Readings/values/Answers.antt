use Rattle.std.proofs.Common.{arith, sym}
use Rattle.marker_table.proofs.Reading.{value_there}
use Rattle.marker_table.proofs.readings.Readings.values.Goals as goal

pub returns : goal.returns
returns c marker =
    let last = c.loop-place-test.false in
    sym (value_there c.loop-place.values.words c.args.self.now.words c.loop-place.invariant.size
    (λ k less. c.loop-place.invariant.words k (omega (arith, less, last))) marker)
