use Rattle.face_text.specs.Starts.{ArePassed}
use Rattle.face_text.proofs.starts.Starts.of.Given as goal

abbrev pub invariant-loop-before : goal.invariant-loop-before
invariant-loop-before l = ArePassed l.site l.starts
