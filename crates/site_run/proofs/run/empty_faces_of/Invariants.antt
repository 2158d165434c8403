use Rattle.std.proofs.Common.{◌≡◌, map}
use Rattle.std.specs.List.{range_with_len}
use Rattle.face_text.specs.Faces.{empty_face}
use Rattle.site_run.proofs.run.empty_faces_of.Given as goal

abbrev pub invariant-loop-before : goal.invariant-loop-before
invariant-loop-before l = l.faces.items ≡ map empty_face (range_with_len 1 l.before)
