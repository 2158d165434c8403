use Rattle.plain_panel.proofs.Tellers.{next_told}
use Rattle.plain_panel.proofs.telling.timeline.Goals as goal

pub loop-place-preserved : goal.loop-place-preserved
loop-place-preserved c =
    next_told c.args.site.now c.args.kept.now c.args.moments.now c.loop-place.place c.index-moments-place.result c.step.new.self
    c.loop-place-test.true c.index-moments-place.is c.in_ok-step.ensures
