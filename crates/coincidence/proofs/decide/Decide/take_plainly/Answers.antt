use Rattle.coincidence.proofs.TakenAnswer.{no_alarm}
use Rattle.coincidence.proofs.decide.Decide.take_plainly.Goals as goal

pub take_other-requires-clause-quiet : goal.take_other-requires-clause-quiet
take_other-requires-clause-quiet c = no_alarm c.args.answer.now.heard c.in-Quiet.is
