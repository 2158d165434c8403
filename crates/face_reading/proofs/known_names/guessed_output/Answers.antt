use Rattle.face_reading.proofs.KnownNames.{both_are, stands_at, when_so, output_is}
use Rattle.face_reading.proofs.known_names.guessed_output.Goals as goal

pub returns : goal.returns
returns c =
    let output = c.in_ok-output.output.now in
    let there = c.in_ok-output.ensures.lookup in
    let at = stands_at c.as_slice.result.now c.args.site.now.outputs c.output.result output c.as_slice.ensures there.3.0 (there.3.1 output) in
    when_so _ output.name c.then_some.result _ c.then_some.ensures
    (λ so.
    let same = both_are output.panel c.args.panel output.number c.args.number so in
    output_is c.args.site.now c.requires c.args.panel c.args.number c.output.result output at same.0 same.1)
