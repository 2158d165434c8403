use Rattle.caused_zones.specs.Marks.{after_answers}
use Rattle.caused_zones.proofs.EachAfter.{AreBelow}
use Rattle.caused_zones.proofs.marking.note_answers.Given as goal

abbrev pub invariant-loop-place : goal.invariant-loop-place
invariant-loop-place l = AreBelow (after_answers l.site l.round l.now.0 l.runs) l.initial.marks l.marks l.place
