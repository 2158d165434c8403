use Rattle.std.proofs.Common.{length}
use Rattle.plain_outputs.proofs.on.+was_on_for.Given as goal

abbrev pub decreases-was_on_for : goal.decreases-was_on_for
decreases-was_on_for l = length l.seen.now
