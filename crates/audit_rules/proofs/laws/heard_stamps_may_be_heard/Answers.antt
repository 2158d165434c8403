use Rattle.audit_rules.proofs.HeardStamps.{heard_may_be}
use Rattle.audit_rules.proofs.laws.heard_stamps_may_be_heard.Goals as goal

pub returns : goal.returns
returns c = heard_may_be
