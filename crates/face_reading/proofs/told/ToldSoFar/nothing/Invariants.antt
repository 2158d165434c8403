use Rattle.std.proofs.Common.{◌≡◌, map}
use Rattle.std.specs.List.{range_with_len}
use Rattle.face_text.specs.Faces.{empty_face}
use Rattle.face_reading.proofs.told.ToldSoFar.nothing.Given as goal

abbrev pub invariant-loop-place : goal.invariant-loop-place
invariant-loop-place l = l.faces.items ≡ map empty_face (range_with_len 1 l.place)
