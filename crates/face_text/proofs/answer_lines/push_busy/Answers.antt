use Rattle.std.proofs.Common.{◌≡◌, ◌∙◌, ap, arith, sym}
use Rattle.std.specs.List.{flat_map, range_with_len}
use Rattle.face_text.proofs.Holding.{moves_next, puts_all, puts_broken}
use Rattle.face_text.proofs.Busy.{busy_front, busy_is, busy_next, line_at}
use Rattle.face_text.proofs.answer_lines.push_busy.Goals as goal

pub returns-in_err-push-clause-text : goal.returns-in_err-push-clause-text
returns-in_err-push-clause-text g c =
    let line = c.as_bytes.ensures.value ∙ c.as_str.ensures.value ∙ c.busy_line-line.ensures.text in
    let front = busy_front c.args.busy.now c.loop-place.place c.as_bytes.result.now c.loop-place-test.true line in
    puts_broken c.args.held.now c.loop-place.held c.push.new.self _ _ _ _ c.as_bytes.result.now front.0 _ c.from_residual.result
    c.from_residual.ensures.0
    front.1 c.loop-place.invariant.text c.in_err-push.ensures.text.err

pub loop-place-preserved : goal.loop-place-preserved
loop-place-preserved g c =
    let line = c.as_bytes.ensures.value ∙ c.as_str.ensures.value ∙ c.busy_line-line.ensures.text in
    let before = c.loop-place.invariant in
    let call = c.push.ensures in
    record {
      text = moves_next c.args.held.now c.loop-place.held c.push.new.self _ _ _ _ c.as_bytes.result.now _
          (busy_next c.args.busy.now c.loop-place.place c.as_bytes.result.now line) before.text c.in_ok-push.ensures.text.ok;
      counted = omega (arith, before.counted, call.cause.later);
      left = call.left ∙ before.left;
      reads = call.reads ∙ before.reads;
    }

pub returns-clause-text : goal.returns-clause-text
returns-clause-text g c =
    let done : c.loop-place.place ≡ 8 = omega (arith, c.loop-place-test.false, c.loop-place.auto.place-end) in
    puts_all c.args.held.now c.loop-place.held _ _ _ _ (busy_is c.args.busy.now ∙ ap (λ n. flat_map (line_at c.args.busy.now) (range_with_len 1 n))
    (sym done)) c.loop-place.invariant.text
