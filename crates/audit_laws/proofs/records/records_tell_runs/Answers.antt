use Rattle.audit_laws.proofs.MomentsTold.{records_told, runs_recorded}
use Rattle.audit_laws.proofs.records.records_tell_runs.Goals as goal

pub returns-clause-told : goal.returns-clause-told
returns-clause-told c = records_told

pub returns-clause-run : goal.returns-clause-run
returns-clause-run c = runs_recorded
