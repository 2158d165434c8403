use Rattle.std.proofs.Common.{◌∷◌}
use Rattle.loop_poller.specs.Calls.{Reported}
use Rattle.part_trials.proofs.polling.report.Goals as goal

pub returns-then-point-len : goal.returns-then-point-len
returns-then-point-len c =
    (Reported c.args.point c.args.state ∷ c.requires.0, c.set_point.ensures c.args.site.now 1 c.requires.0 c.requires.1)
