use Rattle.audit_laws.proofs.AccountsTold.{account_told, output_rule_kept}
use Rattle.audit_laws.proofs.SilencesTold.{silences_told}
use Rattle.audit_laws.proofs.accounts.account_is_told.Goals as goal

pub returns-clause-silences : goal.returns-clause-silences
returns-clause-silences c = silences_told

pub returns-clause-account : goal.returns-clause-account
returns-clause-account c = account_told

pub returns-clause-outputs : goal.returns-clause-outputs
returns-clause-outputs c = output_rule_kept
