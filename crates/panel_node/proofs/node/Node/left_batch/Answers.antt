use Rattle.std.proofs.Common.{◌∙◌}
use Rattle.panel_node.proofs.KeepTurns.{left_batch, may_make}
use Rattle.panel_node.proofs.node.Node.left_batch.Goals as goal

pub make_batch-requires : goal.make_batch-requires
make_batch-requires c =
    let r = c.requires.may in
    may_make r.site r.panel r.kept r.history c.args.self.now r.stands r.run r.few c.args.entries.now c.left_of.result c.requires.told c.left_of.ensures
    c.waiting.result.now c.waiting.ensures

pub returns : goal.returns
returns c site panel kept history h run few =
    c.make_batch.ensures
    ∙ left_batch site panel kept history c.args.self.now h run few c.args.entries.now c.left_of.result c.requires.told c.left_of.ensures c.waiting.result.now
    c.waiting.ensures
