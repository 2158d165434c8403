use Rattle.audit_laws.proofs.CausesJudged.{cause_rule_kept, heard_at_effect, released_in_alarm}
use Rattle.audit_laws.proofs.causes.cause_rule_is_kept.Goals as goal

pub returns-clause-released : goal.returns-clause-released
returns-clause-released c = released_in_alarm

pub returns-clause-stamps : goal.returns-clause-stamps
returns-clause-stamps c = heard_at_effect

pub returns-clause-kept : goal.returns-clause-kept
returns-clause-kept c = cause_rule_kept
