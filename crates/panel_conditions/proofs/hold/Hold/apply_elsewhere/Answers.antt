use Rattle.panel_conditions.proofs.Elsewhere.{holds_elsewhere}
use Rattle.panel_conditions.proofs.hold.Hold.apply_elsewhere.Goals as goal

pub returns : goal.returns
returns c site kept panel done turns d h may tick =
    holds_elsewhere site kept panel done turns d c.args.at c.args.self.now c.note.new.self h may tick c.note.ensures.watches c.note.ensures.changed
    c.note.ensures.signs c.note.ensures.moved
