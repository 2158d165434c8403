use Rattle.desk_faces.proofs.AnswerLaws.{adds_put, adds_stopped}
use Rattle.desk_faces.proofs.answer_writer.AnswerWriter.push.Goals as goal

pub returns-then-self-clause-text : goal.returns-then-self-clause-text
returns-then-self-clause-text g c = adds_stopped _ c.args.self.now c.args.text.now c.if-self.true

pub returns-clause-text : goal.returns-clause-text
returns-clause-text g c =
    adds_put _ _ c.args.self.now _ c.args.text.now c.push.result c.if-self.false c.has_failed-self.ensures c.push.ensures.text c.push.ensures.cause
