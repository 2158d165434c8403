use Rattle.std.proofs.Common.{◌∙◌, length, sym}
use Rattle.caused_zones.specs.Judging.{is_near_to}
use Rattle.caused_zones.proofs.EachAfter.{below_here}
use Rattle.caused_zones.proofs.judging.some_near.Goals as goal

pub returns-then-is_near : goal.returns-then-is_near
returns-then-is_near c =
    sym (below_here (is_near_to c.args.marked.now.site.now c.args.marked.now.marks.now c.args.marked.now.tick.0 c.args.within c.args.place c.args.zone) (length c.args.marked.now.marks.now)
    c.loop-other.other c.loop-other-test.true (sym c.is_near.ensures ∙ c.if-is_near.true))
