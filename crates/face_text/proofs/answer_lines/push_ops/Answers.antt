use Rattle.std.proofs.Common.{◌∙◌, ◌<◌, arith, length, subst}
use Rattle.face_text.specs.Answers.{answer_line}
use Rattle.face_text.proofs.Holding.{moves_next, puts_broken}
use Rattle.face_text.proofs.Listing.{item_front, item_next}
use Rattle.face_text.proofs.answer_lines.push_ops.Goals as goal

pub returns-in_err-push-clause-text : goal.returns-in_err-push-clause-text
returns-in_err-push-clause-text g c =
    let ops = c.args.ops.now in
    let items = c.as_slice-answer-items.result.now in
    let k = c.loop-answer.answer-index in
    let within = subst (λ xs. k < length xs) c.as_slice-answer-items.ensures c.loop-answer-test.true in
    let line = c.as_bytes.ensures.value ∙ c.as_str.ensures.value ∙ c.answer_line.ensures.text in
    puts_broken c.args.held.now c.loop-answer.held c.push.new.self _ _ _ _ c.as_bytes.result.now _ _ c.from_residual.result c.from_residual.ensures.0
    (item_front answer_line ops items k _ c.as_bytes.result.now c.as_slice-answer-items.ensures within line) c.loop-answer.invariant.text
    c.in_err-push.ensures.text.err

pub loop-answer-preserved : goal.loop-answer-preserved
loop-answer-preserved g c =
    let ops = c.args.ops.now in
    let items = c.as_slice-answer-items.result.now in
    let k = c.loop-answer.answer-index in
    let within = subst (λ xs. k < length xs) c.as_slice-answer-items.ensures c.loop-answer-test.true in
    let line = c.as_bytes.ensures.value ∙ c.as_str.ensures.value ∙ c.answer_line.ensures.text in
    let before = c.loop-answer.invariant in
    let call = c.push.ensures in
    record {
      text = moves_next c.args.held.now c.loop-answer.held c.push.new.self _ _ _ _ c.as_bytes.result.now _
          (item_next answer_line ops items k _ c.as_bytes.result.now c.as_slice-answer-items.ensures within line) before.text
          c.in_ok-push.ensures.text.ok;
      counted = omega (arith, before.counted, call.cause.later);
      left = call.left ∙ before.left;
      reads = call.reads ∙ before.reads;
    }
