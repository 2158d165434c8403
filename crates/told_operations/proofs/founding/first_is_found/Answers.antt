use Rattle.told_operations.proofs.FoundFirst.{found_first}
use Rattle.told_operations.proofs.founding.first_is_found.Goals as goal

pub returns : goal.returns
returns c = found_first
