use Rattle.marker_table.proofs.Reading.{AreRead}
use Rattle.marker_table.proofs.readings.Readings.of.Given as goal

abbrev pub invariant-loop-place : goal.invariant-loop-place
invariant-loop-place l = AreRead l.place l.facts.zones l.facts.manual l.values.words l.words
