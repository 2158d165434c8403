use Rattle.panel_laws.proofs.AnswerLaws.{answered_by as law}
use Rattle.panel_laws.proofs.operations.answered_by_the_next_tick.Goals as goal

pub returns : goal.returns
returns c = law
