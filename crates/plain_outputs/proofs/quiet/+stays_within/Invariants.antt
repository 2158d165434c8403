use Rattle.std.proofs.Common.{length}
use Rattle.plain_outputs.proofs.quiet.+stays_within.Given as goal

abbrev pub decreases-stays_within : goal.decreases-stays_within
decreases-stays_within l = length l.seen.now
