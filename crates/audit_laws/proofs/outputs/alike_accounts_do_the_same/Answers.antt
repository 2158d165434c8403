use Rattle.audit_laws.proofs.AlikeFaults.{alike_faults, alike_on}
use Rattle.audit_laws.proofs.outputs.alike_accounts_do_the_same.Goals as goal

pub returns-clause-outputs : goal.returns-clause-outputs
returns-clause-outputs c = alike_on

pub returns-clause-faults : goal.returns-clause-faults
returns-clause-faults c = alike_faults
