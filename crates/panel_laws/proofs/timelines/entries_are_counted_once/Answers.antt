use Rattle.panel_laws.proofs.EntriesAddUp.{counted_once as law}
use Rattle.panel_laws.proofs.timelines.entries_are_counted_once.Goals as goal

pub returns : goal.returns
returns c = law
