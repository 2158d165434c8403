use Rattle.step_laws.proofs.Counts.{two_steps, four_steps}
use Rattle.step_laws.proofs.a_released_zone_takes_its_steps.Goals as goal

pub returns-clause-by_detector : goal.returns-clause-by_detector
returns-clause-by_detector c = two_steps

pub returns-clause-by_call_point : goal.returns-clause-by_call_point
returns-clause-by_call_point c = four_steps
