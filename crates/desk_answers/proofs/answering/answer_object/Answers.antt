use Rattle.std.proofs.Common.{◌∙◌}
use Rattle.desk_answers.proofs.WrittenTexts.{broken_as, joined}
use Rattle.desk_answers.proofs.answering.answer_object.Goals as goal

pub returns-clause-err : goal.returns-clause-err
returns-clause-err g c =
    broken_as c.write_all.result _ _ c.as_bytes.result.now _ (
    joined c.new-text.result.bytes _ _ c.push_str.new.self.bytes c.push_str-2.new.self.bytes c.as_str.result.now c.as_str-2.result.now c.as_bytes.result.now
    c.new-text.ensures
    c.push_str.ensures.bytes c.push_str-2.ensures.bytes (c.as_str.ensures.value ∙ c.head.ensures.text) (c.as_str-2.ensures.value ∙ c.text_of.ensures.text)
    (c.as_bytes.ensures.value ∙ c.as_str-3.ensures.value)
    )
    c.write_all.ensures.err
