use Rattle.panel_laws.proofs.AnswerLaws.{answered_once as law}
use Rattle.panel_laws.proofs.operations.answered_once.Goals as goal

pub returns : goal.returns
returns c = law
