use Rattle.panel_rules.proofs.RecordRuns.{records_are_runs as the_law}
use Rattle.panel_rules.proofs.records.records_are_runs.Goals as goal

pub returns : goal.returns
returns c = the_law
