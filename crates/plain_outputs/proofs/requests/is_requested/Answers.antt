use Rattle.std.proofs.Common.{◌∙◌}
use Rattle.plain_outputs.proofs.Requesting.{requested_none, requested_some}
use Rattle.plain_outputs.proofs.requests.is_requested.Goals as goal

pub returns-in-None : goal.returns-in-None
returns-in-None c facts history are =
    requested_none c.args.site.now facts c.args.output c.panel_of_output.result c.panel_of_output.ensures history
    (c.in-None.ensures.turn c.args.site.now facts history are)

pub returns-in-Some : goal.returns-in-Some
returns-in-Some c facts history are =
    c.is_true.ensures ∙ requested_some c.args.site.now facts c.requires c.args.output c.panel_of_output.result c.panel_of_output.ensures
    c.args.seen.now history c.in-Some.place c.index-seen-place.result
    (c.in-Some.ensures.turn c.args.site.now facts history are)
