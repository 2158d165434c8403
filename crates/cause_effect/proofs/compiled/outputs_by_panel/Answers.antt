use Rattle.std.proofs.Common.{arith}
use Rattle.cause_effect.proofs.Asking.{all_panels}
use Rattle.cause_effect.proofs.compiled.outputs_by_panel.Goals as goal

pub returns : goal.returns
returns c =
    all_panels c.args.site.now c.requires c.from_vec.result c.loop-panel.lists.items c.loop-panel.panel c.from_vec.ensures (omega arith)
    c.loop-panel.invariant.count c.loop-panel.invariant.lists
