use Rattle.plain_outputs.proofs.Requesting.{none_at_drive, some_at_drive}
use Rattle.plain_outputs.proofs.requests.released_at_drive.Goals as goal

pub returns-in-None : goal.returns-in-None
returns-in-None c facts history are =
    none_at_drive c.args.site.now facts c.args.panel history (c.in-None.ensures.turn c.args.site.now facts history are)

pub returns-in-Some : goal.returns-in-Some
returns-in-Some c facts history are =
    some_at_drive c.args.site.now facts c.args.panel c.args.seen.now history c.in-Some.place c.released_at_effect.result
    (c.in-Some.ensures.turn c.args.site.now facts history are) (λ past seen. c.released_at_effect.ensures facts past seen)
