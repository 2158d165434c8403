use Rattle.std.proofs.Common.{ap, sym}
use Rattle.face_text.specs.Answers.{failed_text}
use Rattle.face_text.proofs.Holding.{puts_as}
use Rattle.face_text.proofs.answer_lines.push_failed.Goals as goal

pub returns-then-failed-clause-text : goal.returns-then-failed-clause-text
returns-then-failed-clause-text g c =
    puts_as c.args.held.now c.push.new.self _ _ _ _ c.push.result (sym (ap failed_text c.if-failed.true)) c.push.ensures.text
