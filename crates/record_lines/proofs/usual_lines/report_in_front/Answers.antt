use Rattle.std.proofs.Common.{arith}
use Rattle.std.proofs.lemmas.List.{take_rest}
use Rattle.record_lines.proofs.UsualLines.{point_within, point_word, report_here}
use Rattle.record_lines.proofs.usual_lines.report_in_front.Goals as goal

pub returns-in_ok-point-in-112-clause-line : goal.returns-in_ok-point-in-112-clause-line
returns-in_ok-point-in-112-clause-line c =
    let piece = c.args.piece.now in
    let split = c.split_field.ensures in
    let word = point_word piece c.in-112.len_at_least (omega arith) (omega arith) (omega arith) (omega arith) (omega arith) (omega arith) in
    report_here c.args.site.now c.requires piece _ c.split_field.result.0.now c.split_field.result.1.now c.in_ok-used-in-112.state
    c.in_ok-point-in-112.point c.in_ok-used-in-112.used word (take_rest piece 6) split.first split.rest c.in_ok-used-in-112.ensures
    c.in_ok-point-in-112.ensures

pub returns-in_ok-point-in-112-clause-known : goal.returns-in_ok-point-in-112-clause-known
returns-in_ok-point-in-112-clause-known c =
    point_within c.args.site.now c.requires c.split_field.result.0.now c.in_ok-point-in-112.point c.in_ok-point-in-112.ensures
