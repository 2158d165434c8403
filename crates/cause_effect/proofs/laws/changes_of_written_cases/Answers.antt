use Rattle.cause_effect.proofs.Counted.{one_of_two, both_of_two, last_of_chain}
use Rattle.cause_effect.proofs.laws.changes_of_written_cases.Goals as goal

pub returns-clause-one_of_two : goal.returns-clause-one_of_two
returns-clause-one_of_two c = one_of_two

pub returns-clause-both_of_two : goal.returns-clause-both_of_two
returns-clause-both_of_two c = both_of_two

pub returns-clause-last_of_chain : goal.returns-clause-last_of_chain
returns-clause-last_of_chain c = last_of_chain
