use Rattle.std.proofs.Common.{decimal}
use Rattle.record_lines.proofs.UsualLines.{found_in_front}
use Rattle.record_lines.proofs.usual_lines.number_in_front.Goals as goal

pub returns-in-Some : goal.returns-in-Some
returns-in-Some c =
    found_in_front (decimal c.args.number) c.args.text.now c.in-Some.front.now 11 c.in-Some.ensures.cases.same c.digits_in_front.result
    c.digits_in_front.ensures
