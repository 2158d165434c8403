use Rattle.panel_laws.proofs.AnswersStay.{answers_stay as law}
use Rattle.panel_laws.proofs.operations.answers_stay.Goals as goal

pub returns : goal.returns
returns c = law
