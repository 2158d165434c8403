use Rattle.std.proofs.Common.{◌∙◌, arith}
use Rattle.plain_words.proofs.Silent.{both, neither, silent_last}
use Rattle.plain_words.proofs.missing.+ends_silent.Goals as goal

pub returns-then-is_silent : goal.returns-then-is_silent
returns-then-is_silent t c =
    both _ _ c.is_silent.result c.ends_silent.result c.if-is_silent.true c.is_silent.ensures c.ends_silent.ensures
    ∙ silent_last c.args.answers.now _ c.args.count c.args.point c.in-len1-up.len_at_least (omega arith) c.if-last-point.true

pub returns-else-is_silent : goal.returns-else-is_silent
returns-else-is_silent t c =
    neither _ _ c.is_silent.result c.if-is_silent.false c.is_silent.ensures
    ∙ silent_last c.args.answers.now _ c.args.count c.args.point c.in-len1-up.len_at_least (omega arith) c.if-last-point.true
