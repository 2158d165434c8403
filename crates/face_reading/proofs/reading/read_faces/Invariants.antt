use Rattle.std.proofs.Common.{◌+◌, ◌<◌, length}
use Rattle.face_reading.proofs.ReadSoFar.{IsReadSoFar}
use Rattle.face_reading.proofs.reading.read_faces.Given as goal

abbrev pub invariant-loop-line : goal.invariant-loop-line
invariant-loop-line l = record { read : IsReadSoFar l.site l.text l.rest l.told l.count; room : l.count + length l.rest < length l.text }

abbrev pub decreases-loop-line : goal.decreases-loop-line
decreases-loop-line l = length l.rest
