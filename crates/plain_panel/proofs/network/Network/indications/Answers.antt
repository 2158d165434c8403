use Rattle.std.proofs.Common.{arith}
use Rattle.plain_panel.proofs.HoldsShown.{own_read}
use Rattle.plain_panel.proofs.network.Network.indications.Goals as goal

pub returns : goal.returns
returns c =
    let few = c.args.self.now.few in
    own_read c.args.self.now.indications c.args.panel _ (omega arith) c.requires.0 (omega (arith, few, c.requires.1))
