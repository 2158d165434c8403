use Rattle.std.proofs.lemmas.Bool.{eqb-true}
use Rattle.coincidence.proofs.BlockWords.{going_on_in}
use Rattle.coincidence.proofs.decide.Decide.all_go_on_in.Goals as goal

pub returns : goal.returns
returns c is =
    going_on_in c.args.self.now c.args.block.now c.requires c.if-block-self.false c.args.word c.eights_at.result c.joined.result c.joined.type_inv
    c.eights_at.ensures c.joined.ensures (eqb-true _ 0 is)
