use Rattle.marker_table.proofs.Joining.{AreJoinedBelow}
use Rattle.marker_table.proofs.values.Values.join.Given as goal

abbrev pub invariant-loop-place : goal.invariant-loop-place
invariant-loop-place l = AreJoinedBelow l.place l.initial.self.words l.other.words l.self.words
