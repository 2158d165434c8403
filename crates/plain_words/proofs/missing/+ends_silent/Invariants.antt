use Rattle.std.proofs.Common.{length}
use Rattle.plain_words.proofs.missing.+ends_silent.Given as goal

abbrev pub decreases-ends_silent : goal.decreases-ends_silent
decreases-ends_silent l = length l.answers.now
