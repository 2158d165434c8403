use Rattle.std.proofs.Common.{◌∙◌, length, sym}
use Rattle.caused_zones.specs.Marks.{has_run}
use Rattle.caused_zones.proofs.EachAfter.{below_here}
use Rattle.caused_zones.proofs.marking.some_signal.Goals as goal

pub returns-then-has_run : goal.returns-then-has_run
returns-then-has_run c =
    sym (below_here (has_run c.args.runs.now) (length c.args.runs.now) c.loop-place.place c.loop-place-test.true
    (sym c.has_run.ensures ∙ c.if-has_run.true))
