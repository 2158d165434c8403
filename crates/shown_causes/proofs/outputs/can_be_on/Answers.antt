use Rattle.shown_causes.proofs.OnOutputs.{on_is}
use Rattle.shown_causes.proofs.outputs.can_be_on.Goals as goal

pub returns : goal.returns
returns c site kept operations timeline ticks masks place valid acyclic at goes tell =
    on_is site kept operations timeline ticks masks place c.args.output.now valid at tell c.asks.result
    (c.asks.ensures site masks place valid acyclic at goes)
