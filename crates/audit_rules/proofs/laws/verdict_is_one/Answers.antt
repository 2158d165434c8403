use Rattle.audit_rules.proofs.OneVerdict.{verdict_is_one as law}
use Rattle.audit_rules.proofs.laws.verdict_is_one.Goals as goal

pub returns : goal.returns
returns c = law
