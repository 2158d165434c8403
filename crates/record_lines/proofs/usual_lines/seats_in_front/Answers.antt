use Rattle.std.proofs.Common.{arith}
use Rattle.std.proofs.lemmas.List.{take_rest}
use Rattle.record_lines.proofs.UsualLines.{keep_between}
use Rattle.record_lines.proofs.usual_lines.seats_in_front.Goals as goal

pub returns-in-10-2 : goal.returns-in-10-2
returns-in-10-2 c =
    let text = c.args.text.now in
    keep_between text _ _ _ c.in_ok-before.before c.in_ok-behind-in-32.behind c.args.seats.now.items c.panels_seats.new.seats.items c.push.new.self.items
    c.panels_seats-in-32.new.seats.items c.requires (take_rest text c.in_ok-before.before) (take_rest _ 2) (take_rest _ c.in_ok-behind-in-32.behind)
    c.in_ok-before.ensures c.in-32.len_at_least (omega arith) (omega arith) c.push.ensures.items c.in_ok-behind-in-32.ensures c.in-10-2.len_at_least (omega arith)
