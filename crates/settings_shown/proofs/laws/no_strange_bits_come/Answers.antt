use Rattle.settings_shown.proofs.Changes.{changes_keep as law}
use Rattle.settings_shown.proofs.laws.no_strange_bits_come.Goals as goal

pub returns : goal.returns
returns c = law
