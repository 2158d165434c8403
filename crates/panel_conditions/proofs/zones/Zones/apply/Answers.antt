use Rattle.std.proofs.Common.{◌∙◌, ap, set, arith}
use Rattle.panel_conditions.specs.Parts.{zone_done}
use Rattle.panel_conditions.proofs.Each.{each_more}
use Rattle.panel_conditions.proofs.zones.Zones.apply.Goals as goal

pub loop-k-preserved : goal.loop-k-preserved
loop-k-preserved c = record {
  watches =
      let step = zone_done c.args.operation.now c.args.at in
      ap (set c.loop-k.self.watches.items c.loop-k.k) (c.apply.ensures ∙ ap step c.index_mut-watch.ensures.value)
      ∙ each_more step c.args.self.now.watches.items c.loop-k.self.watches.items c.loop-k.k c.index_mut-watch.result.now (omega arith)
      c.loop-k.invariant.watches;
  moved = c.loop-k.invariant.moved;
}
