use Rattle.plain_panel.proofs.Keepings.{counted_more}
use Rattle.plain_panel.proofs.keeping.count_entries.Goals as goal

pub loop-entering-preserved : goal.loop-entering-preserved
loop-entering-preserved c =
    counted_more c.args.panels.now c.loop-entering.entering-index c.entering-item.result _ c.args.stored.now c.loop-entering.stored
    c.count_panel.new.stored c.loop-entering-test.true
    c.entering-item.is c.loop-entering.invariant c.count_panel.ensures
