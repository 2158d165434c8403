use Rattle.std.proofs.Common.{◌++◌, [], append_assoc, refl}
use Rattle.std.specs.List.{flat_map}
use Rattle.face_text.specs.Answers.{answer_line, busy_text, failed_text}
use Rattle.face_text.proofs.Holding.{moves_more, moves_none, puts_broken, puts_more}
use Rattle.face_text.proofs.answer_lines.push_answers.Goals as goal

pub returns-in_err-push_ops-clause-text : goal.returns-in_err-push_ops-clause-text
returns-in_err-push_ops-clause-text g c =
    let answers = c.args.answers.now in
    let ops = flat_map answer_line answers.ops in
    let busy = busy_text answers.busy in
    let failed = failed_text answers.failed in
    puts_broken c.args.held.now c.args.held.now c.push_ops.new.held _ _ _ [] ops (busy ++ failed) _ c.from_residual.result c.from_residual.ensures.0
    (append_assoc ops busy failed) (moves_none c.args.held.now _) c.in_err-push_ops.ensures.text.err

pub returns-in_err-push_busy-clause-text : goal.returns-in_err-push_busy-clause-text
returns-in_err-push_busy-clause-text g c =
    let answers = c.args.answers.now in
    let ops = flat_map answer_line answers.ops in
    let busy = busy_text answers.busy in
    let failed = failed_text answers.failed in
    puts_broken c.args.held.now c.push_ops.new.held c.push_busy.new.held _ _ _ ops busy failed _ c.from_residual-in_err-push_busy.result
    c.from_residual-in_err-push_busy.ensures.0
    refl c.in_ok-push_ops.ensures.text.ok c.in_err-push_busy.ensures.text.err

pub returns-clause-text : goal.returns-clause-text
returns-clause-text g c =
    let answers = c.args.answers.now in
    let ops = flat_map answer_line answers.ops in
    let busy = busy_text answers.busy in
    let two =
    moves_more c.args.held.now c.push_ops.new.held c.push_busy.new.held _ _ _ ops busy c.in_ok-push_ops.ensures.text.ok
    c.in_ok-push_busy.ensures.text.ok in
    puts_more c.args.held.now c.push_busy.new.held c.push_failed.new.held _ _ _ (ops ++ busy) (failed_text answers.failed) c.push_failed.result two
    c.push_failed.ensures.text
