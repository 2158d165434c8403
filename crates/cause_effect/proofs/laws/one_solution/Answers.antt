use Rattle.cause_effect.proofs.Depths.{one_solution_of}
use Rattle.cause_effect.proofs.laws.one_solution.Goals as goal

pub returns : goal.returns
returns c = one_solution_of
