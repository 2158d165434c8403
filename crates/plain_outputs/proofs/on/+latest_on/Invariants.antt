use Rattle.std.proofs.Common.{length}
use Rattle.plain_outputs.proofs.on.+latest_on.Given as goal

abbrev pub decreases-latest_on : goal.decreases-latest_on
decreases-latest_on l = length l.seen.now
