use Rattle.panel_node.proofs.Begun.{begun}
use Rattle.panel_node.proofs.node.Node.begin.Goals as goal

pub returns-clause-begins : goal.returns-clause-begins
returns-clause-begins c site panel kept history h tick run =
    let same = c.apply_done.ensures.same in
    begun site panel kept history c.args.self.now h run c.apply_done.new.self same (c.apply_done.ensures.applied site panel kept history h run) c.begin.new.self
    (rw c.done.ensures at c.begin.ensures) c.begin-2.new.self
    (c.begin-2.ensures site kept _ (rw same.desk h.desk) tick) c.args.tick tick
