use Rattle.desk_faces.proofs.AnswerLaws.{ends_flushed, ends_stopped}
use Rattle.desk_faces.proofs.answer_writer.AnswerWriter.finish.Goals as goal

pub returns-then-self-clause-text : goal.returns-then-self-clause-text
returns-then-self-clause-text g c = ends_stopped _ c.args.self.now _ c.if-self.true

pub returns-clause-text : goal.returns-clause-text
returns-clause-text g c =
    ends_flushed _ _ c.args.self.now c.flush.result c.if-self.false c.flush.ensures.written c.flush.ensures.err c.flush.ensures.cause
