use Rattle.panel_laws.proofs.CountersAddUp.{add_up as law}
use Rattle.panel_laws.proofs.timelines.counters_add_up.Goals as goal

pub returns : goal.returns
returns c = law
