use Rattle.panel_frames.proofs.Beyond.{first_found, none_found, goes_there}
use Rattle.panel_frames.proofs.read.first_beyond.Goals as goal

pub returns-then-bytes-place-clause-value : goal.returns-then-bytes-place-clause-value
returns-then-bytes-place-clause-value c =
    first_found c.args.bytes.now c.args.most.now c.loop-place.place c.requires c.loop-place-test.true c.loop-place.invariant
    (goes_there _ _ c.if-bytes-place.true)

pub returns-clause-value : goal.returns-clause-value
returns-clause-value c = none_found c.args.bytes.now c.args.most.now c.loop-place.place c.requires c.loop-place-test.false c.loop-place.invariant
