use Rattle.panel_rules.proofs.Joined.{due_by_hand}
use Rattle.panel_laws.proofs.words.due_hand_is_kept.Goals as goal

pub returns : goal.returns
returns c = due_by_hand
