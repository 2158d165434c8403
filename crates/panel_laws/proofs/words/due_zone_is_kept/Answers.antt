use Rattle.panel_rules.proofs.Joined.{due_kept}
use Rattle.panel_laws.proofs.words.due_zone_is_kept.Goals as goal

pub returns : goal.returns
returns c = due_kept
