use Rattle.panel_effects.proofs.Requested.{requests_are}
use Rattle.panel_effects.proofs.effects.Effects.requests.Goals as goal

pub returns : goal.returns
returns c site facts panel before valid free h = requests_are site facts panel before c.args.self.now valid free h
