use Rattle.audit_rules.proofs.HeardStamps.{held_shown, kept_shown}
use Rattle.audit_rules.proofs.laws.held_zones_can_be_shown.Goals as goal

pub returns-clause-own : goal.returns-clause-own
returns-clause-own c = held_shown

pub returns-clause-told : goal.returns-clause-told
returns-clause-told c = kept_shown
