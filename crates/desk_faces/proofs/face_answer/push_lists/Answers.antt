use Rattle.std.proofs.Common.{◌∙◌}
use Rattle.desk_faces.specs.FaceObjects.{panel_part, tick_part}
use Rattle.desk_faces.proofs.AnswerLaws.{adds_as, adds_then}
use Rattle.desk_faces.proofs.face_answer.push_lists.Goals as goal

pub returns-clause-text : goal.returns-clause-text
returns-clause-text g c =
    let panel =
    adds_as c.as_bytes.result.now (panel_part c.args.face.now.panel) (c.as_bytes.ensures.value ∙ c.as_str.ensures.value ∙ c.before_tests-panel_told.ensures.text)
    c.push-4.ensures.text in
    let tick =
    adds_as c.as_bytes-2.result.now (tick_part c.args.tick) (c.as_bytes-2.ensures.value ∙ c.as_str-2.ensures.value ∙ c.before_zones-tick_told.ensures.text)
    c.push-5.ensures.text in
    let one = adds_then c.push_list.ensures.text c.push.ensures.text in
    let two = adds_then one c.push_list-2.ensures.text in
    let three = adds_then two c.push-2.ensures.text in
    let four = adds_then three c.push_list-3.ensures.text in
    let five = adds_then four c.push-3.ensures.text in
    let six = adds_then five c.push_list-4.ensures.text in
    let seven = adds_then six panel in
    let eight = adds_then seven c.push_list-5.ensures.text in
    let nine = adds_then eight tick in
    let ten = adds_then nine c.push_list-6.ensures.text in
    adds_then ten c.push-6.ensures.text
