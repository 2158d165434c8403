use Rattle.coincidence_rules.proofs.ValidWired.{wired_of}
use Rattle.panel_conditions.proofs.ByAnswers.{word_by_answers, faults_by_answers}
use Rattle.panel_conditions.proofs.laws.answers_tell.Goals as goal

pub returns : goal.returns
returns c = record {
  word = λ site kept panel tick done answers fault valid order. word_by_answers site kept panel tick done answers fault (wired_of site valid) order;
  faults = faults_by_answers;
}
