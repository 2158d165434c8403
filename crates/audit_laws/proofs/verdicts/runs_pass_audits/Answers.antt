use Rattle.audit_laws.proofs.RunsPass.{runs_pass, texts_pass}
use Rattle.audit_laws.proofs.verdicts.runs_pass_audits.Goals as goal

pub returns-clause-runs : goal.returns-clause-runs
returns-clause-runs c = runs_pass

pub returns-clause-texts : goal.returns-clause-texts
returns-clause-texts c = texts_pass
