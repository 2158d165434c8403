use Rattle.face_reading.proofs.ReadInForm.{empty_faces_more}
use Rattle.face_reading.proofs.told.ToldSoFar.nothing.Goals as goal

pub loop-place-preserved : goal.loop-place-preserved
loop-place-preserved c =
    empty_faces_more c.loop-place.place c.loop-place.faces.items c.push.new.self.items c.empty.result c.loop-place.invariant c.empty.ensures
    c.in_ok-push.ensures.items
