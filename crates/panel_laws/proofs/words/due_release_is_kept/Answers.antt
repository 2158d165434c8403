use Rattle.panel_rules.proofs.Joined.{due_released}
use Rattle.panel_laws.proofs.words.due_release_is_kept.Goals as goal

pub returns : goal.returns
returns c = due_released
