use Rattle.run_text.proofs.PromisesHold.{are_kept as law}
use Rattle.run_text.proofs.promises.promises_are_kept.Goals as goal

pub returns : goal.returns
returns c = law
