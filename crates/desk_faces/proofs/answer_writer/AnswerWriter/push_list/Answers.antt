use Rattle.face_text.specs.Lists.{list_text}
use Rattle.desk_faces.proofs.AnswerLaws.{adds_put, adds_stopped}
use Rattle.desk_faces.proofs.answer_writer.AnswerWriter.push_list.Goals as goal

pub returns-then-self-clause-text : goal.returns-then-self-clause-text
returns-then-self-clause-text g c = adds_stopped _ c.args.self.now _ c.if-self.true

pub returns-clause-text : goal.returns-clause-text
returns-clause-text g c =
    adds_put _ _ c.args.self.now _ (list_text c.args.site.now c.args.face.now c.args.list) c.push_list.result c.if-self.false c.has_failed-self.ensures
    c.push_list.ensures.text c.push_list.ensures.cause
