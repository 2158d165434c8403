use Rattle.cause_effect.proofs.Depths.{more_kept}
use Rattle.cause_effect.proofs.laws.more_facts_keep_markers.Goals as goal

pub returns : goal.returns
returns c = more_kept
