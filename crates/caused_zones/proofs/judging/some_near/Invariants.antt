use Rattle.std.proofs.Common.{◌≡◌, false}
use Rattle.caused_zones.specs.Judging.{is_near_to}
use Rattle.caused_zones.specs.Marks.{passes_below}
use Rattle.caused_zones.proofs.judging.some_near.Given as goal

abbrev pub invariant-loop-other : goal.invariant-loop-other
invariant-loop-other l = passes_below (is_near_to l.marked.site.now l.marked.marks.now l.marked.tick.0 l.within l.place l.zone) l.other ≡ false
