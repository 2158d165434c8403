use Rattle.std.proofs.Common.{[]}
use Rattle.face_text.proofs.Holding.{broke_longer, puts_failed}
use Rattle.face_text.proofs.held.Held.push.Goals as goal

pub returns-in_err-make_room-clause-text : goal.returns-in_err-make_room-clause-text
returns-in_err-make_room-clause-text g c =
    puts_failed c.args.self.now c.make_room.new.self _ _ c.args.line.now c.from_residual.result c.from_residual.ensures.0
    (broke_longer c.args.self.now _ _ [] c.args.line.now c.in_err-make_room.ensures.text.err)
