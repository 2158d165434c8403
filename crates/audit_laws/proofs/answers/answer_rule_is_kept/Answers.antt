use Rattle.audit_laws.proofs.AnswersJudged.{answer_rule_kept}
use Rattle.audit_laws.proofs.answers.answer_rule_is_kept.Goals as goal

pub returns : goal.returns
returns c = answer_rule_kept
