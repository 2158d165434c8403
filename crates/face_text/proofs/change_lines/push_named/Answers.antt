use Rattle.std.proofs.Common.{[], ◌++◌}
use Rattle.face_text.specs.Slots.{number_of_truth, on_word}
use Rattle.face_text.proofs.Holding.{broke_longer, puts_failed}
use Rattle.face_text.proofs.change_lines.push_named.Goals as goal

pub returns-in_err-make_room-clause-text : goal.returns-in_err-make_room-clause-text
returns-in_err-make_room-clause-text g c =
    let line = c.args.head.now.bytes ++ c.args.name.now.bytes ++ on_word (number_of_truth c.args.on) in
    puts_failed c.args.held.now c.make_room.new.self _ _ line c.from_residual.result c.from_residual.ensures.0
    (broke_longer c.args.held.now _ _ [] line c.in_err-make_room.ensures.text.err)
