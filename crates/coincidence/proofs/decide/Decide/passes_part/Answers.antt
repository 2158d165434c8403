use Rattle.coincidence.proofs.Eights.{run_by_eight}
use Rattle.coincidence.proofs.decide.Decide.passes_part.Goals as goal

pub returns-clause-passed : goal.returns-clause-passed
returns-clause-passed c is =
    let eight = c.first_eight-eight in
    run_by_eight c.args.run.now eight.result eight.ensures.items c.if-eight-run.false c.args.self.now c.args.findings.now c.args.self.now
    c.passes.new.findings (c.passes.ensures.passed is)
