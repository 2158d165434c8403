use Rattle.std.proofs.Common.{length}
use Rattle.plain_outputs.proofs.quiet.+up_to.Given as goal

abbrev pub decreases-up_to : goal.decreases-up_to
decreases-up_to l = length l.seen.now
