use Rattle.std.proofs.Common.{◌≡◌, false}
use Rattle.caused_zones.specs.Marks.{passes_below, has_run}
use Rattle.caused_zones.proofs.marking.some_signal.Given as goal

abbrev pub invariant-loop-place : goal.invariant-loop-place
invariant-loop-place l = passes_below (has_run l.runs) l.place ≡ false
