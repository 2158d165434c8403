use Rattle.std.proofs.Common.{sym, subst}
use Rattle.answer_lanes.specs.Blocks.{block_answer_at}
use Rattle.coincidence.specs.Changes.{CanTakeRunOf, TakesRunOf}
use Rattle.coincidence.proofs.decide.Decide.take_block.Goals as goal

pub take_whole-requires-clause-numbers : goal.take_whole-requires-clause-numbers
take_whole-requires-clause-numbers c = (c.is_whole.ensures c.if-not-is_whole.false).numbers

pub take_whole-requires-clause-can : goal.take_whole-requires-clause-can
take_whole-requires-clause-can c =
    subst (λ run. CanTakeRunOf block_answer_at c.args.self.now run c.args.findings.now) (sym (c.is_whole.ensures c.if-not-is_whole.false).whole) c.requires

pub returns : goal.returns
returns c =
    subst (λ run. TakesRunOf block_answer_at c.args.self.now run c.args.findings.now c.take_whole.new.self c.take_whole.new.findings)
    (c.is_whole.ensures c.if-not-is_whole.false).whole c.take_whole.ensures
