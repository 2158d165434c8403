use Rattle.hold_calls.proofs.EntriesHeld.{entries_by_told as law}
use Rattle.hold_calls.proofs.entries.told_entries.Goals as goal

pub returns : goal.returns
returns c = law
