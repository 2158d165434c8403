use Rattle.told_operations.proofs.ToldInOrder.{done_told}
use Rattle.told_operations.proofs.doing.done_is_listed.Goals as goal

pub returns : goal.returns
returns c = done_told
