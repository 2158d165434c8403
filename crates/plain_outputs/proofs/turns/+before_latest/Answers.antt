use Rattle.std.proofs.Common.{◌∙◌, sym}
use Rattle.plain_outputs.proofs.Looking.{ends_with, turn_before, turn_now}
use Rattle.plain_outputs.proofs.turns.+before_latest.Goals as goal

pub returns-then-is_turn-clause-turn : goal.returns-then-is_turn-clause-turn
returns-then-is_turn-clause-turn t c site facts history are =
    turn_now site facts c.args.panel c.args.task c.args.seen.now _ c.last-item.result
    (ends_with c.args.seen.now c.last-item.result c.in-len1-up.len_at_least c.last-item.is) (sym c.is_turn.ensures ∙ c.if-is_turn.true) history
    are

pub returns-else-is_turn-clause-turn : goal.returns-else-is_turn-clause-turn
returns-else-is_turn-clause-turn t c site facts history are =
    turn_before site facts c.args.panel c.args.task c.args.seen.now _ c.last-item.result
    (ends_with c.args.seen.now c.last-item.result c.in-len1-up.len_at_least c.last-item.is) (sym c.is_turn.ensures ∙ c.if-is_turn.false)
    c.before_latest.result c.before_latest.ensures.place (c.before_latest.ensures.turn site facts) history are
