use Rattle.zone_signals.proofs.Marking.{none_marked, one_marked}
use Rattle.zone_signals.proofs.marks.mark_zones.Goals as goal

pub loop-place-init : goal.loop-place-init
loop-place-init c = none_marked c.args.site.now c.args.runs.now c.args.start _

pub loop-place-preserved : goal.loop-place-preserved
loop-place-preserved c =
    one_marked c.args.site.now c.args.runs.now c.args.start c.loop-place.place _ c.loop-place.marks c.mark_point.new.marks c.loop-place-test.true
    c.mark_point.ensures c.loop-place.invariant
