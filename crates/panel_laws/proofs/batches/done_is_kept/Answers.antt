use Rattle.panel_laws.proofs.DoneKept.{done_kept as law}
use Rattle.panel_laws.proofs.batches.done_is_kept.Goals as goal

pub returns : goal.returns
returns c = law
