use Rattle.answer_lanes.proofs.FindingRuns.{one_more}
use Rattle.answer_lanes.proofs.finding_run.Run+FindingGroup.push.Goals as goal

pub returns-clause-put : goal.returns-clause-put
returns-clause-put c _ = one_more c.args.self.now c.set.new.self c.args.finding.now c.set.ensures
