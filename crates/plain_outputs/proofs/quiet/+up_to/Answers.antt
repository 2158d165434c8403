use Rattle.std.proofs.Common.{◌∙◌, sym}
use Rattle.plain_outputs.proofs.Looking.{ends_with}
use Rattle.plain_outputs.proofs.Silencing.{whole_by}
use Rattle.plain_outputs.proofs.quiet.+up_to.Goals as goal

pub returns-then-came_by-clause-seen : goal.returns-then-came_by-clause-seen
returns-then-came_by-clause-seen t c site facts history are =
    whole_by site facts c.args.tick.0 c.args.seen.now _ c.last-item.result
    (ends_with c.args.seen.now c.last-item.result c.in-len1-up.len_at_least c.last-item.is)
    (λ past at. sym c.if-came_by.true ∙ c.came_by.ensures past at) history are
