use Rattle.std.proofs.Common.{◌∙◌}
use Rattle.desk_answers.specs.AnswerHeads.{answer_head}
use Rattle.desk_answers.specs.declared.content.Content.TheVariants.{Json}
use Rattle.desk_requests.specs.declared.status.Status.TheVariants.{Done}
use Rattle.desk_faces.specs.FaceObjects.{face_front}
use Rattle.desk_faces.proofs.AnswerLaws.{adds_as, adds_then, writes_all}
use Rattle.desk_faces.proofs.face_answer.answer_face.Goals as goal

pub returns-clause-text : goal.returns-clause-text
returns-clause-text g c =
    let opening =
    adds_as c.as_bytes.result.now (answer_head Done Json) (c.as_bytes.ensures.value ∙ c.as_str.ensures.value ∙ c.head-opening.ensures.text)
    c.push.ensures.text in
    let start =
    adds_as c.as_bytes-2.result.now (face_front c.args.face.now) (c.as_bytes-2.ensures.value ∙ c.as_str-2.ensures.value ∙ c.front-start.ensures.text)
    c.push-2.ensures.text in
    writes_all (c.new-writer.ensures _) (adds_then opening (adds_then start c.push_lists.ensures.text)) c.finish.ensures.text
