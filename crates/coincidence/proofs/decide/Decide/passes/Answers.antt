use Rattle.coincidence.proofs.Passed.{still_run}
use Rattle.coincidence.proofs.decide.Decide.passes.Goals as goal

pub returns-then-changing-eq0-clause-passed : goal.returns-then-changing-eq0-clause-passed
returns-then-changing-eq0-clause-passed c is =
    still_run c.args.self.now c.args.run.now c.args.findings.now c.put_eight.new.findings c.plain_group.result c.changing_bits-changing.result
    c.plain_group.ensures.plain c.changing_bits-changing.ensures c.if-changing-eq0.true c.put_eight.ensures
