use Rattle.face_reading.proofs.SameTexts.{texts_are_their_own as law}
use Rattle.face_reading.proofs.laws.texts_are_their_own.Goals as goal

pub returns : goal.returns
returns c = law
