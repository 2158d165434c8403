use Rattle.std.proofs.Common.{length}
use Rattle.plain_outputs.proofs.turns.+before_latest.Given as goal

abbrev pub decreases-before_latest : goal.decreases-before_latest
decreases-before_latest l = length l.seen.now
