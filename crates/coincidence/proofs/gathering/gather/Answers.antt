use Rattle.std.proofs.Common.{ap, subst, sym, ◌∙◌}
use Rattle.answer_lanes.specs.Points.{finding_at}
use Rattle.answer_lanes.proofs.Moving.{length_run}
use Rattle.tick_units.specs.Lane.{HasRoom}
use Rattle.coincidence.proofs.gathering.gather.Goals as goal

pub put_eight-requires-clause-room : goal.put_eight-requires-clause-room
put_eight-requires-clause-room c =
    subst (HasRoom c.args.findings.now)
    (length_run finding_at c.args.found.now ∙ ap (λ run. run.count) (sym (c.push.ensures.kept c.if-push.false))) c.requires.room
