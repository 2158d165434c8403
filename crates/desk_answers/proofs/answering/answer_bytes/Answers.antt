use Rattle.std.proofs.Common.{◌∙◌}
use Rattle.desk_answers.specs.AnswerHeads.{answer_head}
use Rattle.desk_answers.proofs.WrittenTexts.{both_written, broken_first, broken_second}
use Rattle.desk_requests.specs.declared.status.Status.TheVariants.{Done}
use Rattle.desk_answers.proofs.answering.answer_bytes.Goals as goal

pub returns-in_err-write_all-clause-err : goal.returns-in_err-write_all-clause-err
returns-in_err-write_all-clause-err g c =
    broken_first c.from_residual.result _ _ c.as_bytes.result.now (answer_head Done c.args.content) c.args.body.now c.from_residual.ensures.0
    (c.as_bytes.ensures.value ∙ c.as_str.ensures.value ∙ c.head-text.ensures.text) c.in_err-write_all.ensures.err

pub returns-clause-ok : goal.returns-clause-ok
returns-clause-ok g c =
    both_written c.write_all-2.result _ _ _ c.as_bytes.result.now (answer_head Done c.args.content) c.args.body.now
    (c.as_bytes.ensures.value ∙ c.as_str.ensures.value ∙ c.head-text.ensures.text) c.in_ok-write_all.ensures.ok c.write_all-2.ensures.ok

pub returns-clause-err : goal.returns-clause-err
returns-clause-err g c =
    broken_second c.write_all-2.result _ _ _ c.as_bytes.result.now (answer_head Done c.args.content) c.args.body.now
    (c.as_bytes.ensures.value ∙ c.as_str.ensures.value ∙ c.head-text.ensures.text) c.in_ok-write_all.ensures.ok c.write_all-2.ensures.err
