use Rattle.coincidence.proofs.TakenAnswer.{no_alarm}
use Rattle.coincidence.proofs.decide.Decide.take.Goals as goal

pub take_no_alarm-requires-clause-quiet : goal.take_no_alarm-requires-clause-quiet
take_no_alarm-requires-clause-quiet c = no_alarm c.args.answer.now.heard c.in-Quiet.is
