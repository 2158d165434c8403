use Rattle.answer_lanes.proofs.PlaceSets.{AreCleared}
use Rattle.answer_lanes.proofs.place_set.PlaceSet.clear.Given as goal

abbrev pub invariant-loop-number : goal.invariant-loop-number
invariant-loop-number l = AreCleared l.initial.self.bytes.items l.self.bytes.items l.number
