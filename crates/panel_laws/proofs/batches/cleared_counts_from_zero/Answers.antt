use Rattle.panel_laws.proofs.ClearedCounts.{cleared_counts as law}
use Rattle.panel_laws.proofs.batches.cleared_counts_from_zero.Goals as goal

pub returns : goal.returns
returns c = law
