use Rattle.hold_calls.proofs.EntriesHeld.{entries_held as law}
use Rattle.hold_calls.proofs.entries.held_entries.Goals as goal

pub returns : goal.returns
returns c = law
