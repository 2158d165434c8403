use Rattle.service_register.proofs.Twice.{test_twice, visit_answer, visit_twice}
use Rattle.service_register.proofs.laws.calls_act_once.Goals as goal

pub returns-clause-visits : goal.returns-clause-visits
returns-clause-visits c = record { changes = visit_twice; answer = visit_answer }

pub returns-clause-tests : goal.returns-clause-tests
returns-clause-tests c = record { changes = test_twice }
