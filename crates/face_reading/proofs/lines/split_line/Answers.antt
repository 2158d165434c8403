use Rattle.face_reading.proofs.Parting.{none_more}
use Rattle.face_reading.proofs.lines.split_line.Goals as goal

pub loop-place-preserved : goal.loop-place-preserved
loop-place-preserved c = none_more c.args.text.now c.loop-place.place c.loop-place-test.true c.if-byte-eq10.false c.loop-place.invariant
