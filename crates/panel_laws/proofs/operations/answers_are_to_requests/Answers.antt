use Rattle.panel_laws.proofs.AnswerLaws.{answers_are_to as law}
use Rattle.panel_laws.proofs.operations.answers_are_to_requests.Goals as goal

pub returns : goal.returns
returns c = law
