use Rattle.std.proofs.Common.{◌∙◌, arith}
use Rattle.panel_rules.specs.Words.{ring_calls}
use Rattle.panel_rules.specs.Run.{tells_fault}
use Rattle.panel_rules.proofs.RingWords.{kept_by_ring}
use Rattle.plain_panel.proofs.network.Network.kept_word.Goals as goal

pub returns : goal.returns
returns c site kept done before stands =
    let size = stands.size in
    let few = c.args.self.now.few in
    c.word.ensures.kept site.panels (ring_calls site kept done (tells_fault site kept done) before) stands.ring
    ∙ kept_by_ring site kept done (tells_fault site kept done) before c.args.at c.args.of (omega (arith, size, few))
    (c.requires.at.0, omega (arith, size, c.requires.at.1)) (c.requires.from.0, omega (arith, size, c.requires.from.1))
