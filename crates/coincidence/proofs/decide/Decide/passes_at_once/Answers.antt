use Rattle.std.proofs.Common.{sym, subst}
use Rattle.answer_lanes.specs.Blocks.{block_answer_at}
use Rattle.coincidence.specs.Changes.{CanTakeRunOf, TakesRunOf}
use Rattle.coincidence.proofs.Steady.{whole_is}
use Rattle.coincidence.proofs.decide.Decide.passes_at_once.Goals as goal

pub passes_block-requires : goal.passes_block-requires
passes_block-requires c =
    subst (λ run. CanTakeRunOf block_answer_at c.args.self.now run c.args.findings.now)
    (sym (whole_is c.args.run.now c.if-run-eq0.true c.if-run-eq32.true)) c.requires

pub returns-then-run-eq32-clause-passed : goal.returns-then-run-eq32-clause-passed
returns-then-run-eq32-clause-passed c is =
    subst (λ run. TakesRunOf block_answer_at c.args.self.now run c.args.findings.now c.args.self.now c.passes_block.new.findings)
    (whole_is c.args.run.now c.if-run-eq0.true c.if-run-eq32.true) (c.passes_block.ensures.passed is)
