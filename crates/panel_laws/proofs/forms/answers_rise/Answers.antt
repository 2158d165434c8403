use Rattle.panel_laws.proofs.AnswersRise.{answers_rise as law}
use Rattle.panel_laws.proofs.forms.answers_rise.Goals as goal

pub returns : goal.returns
returns c = law
