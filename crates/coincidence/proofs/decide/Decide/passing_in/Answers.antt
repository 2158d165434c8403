use Rattle.coincidence.proofs.PlainlyFound.{going_passed, still_passed}
use Rattle.coincidence.proofs.decide.Decide.passing_in.Goals as goal

pub returns-then-block-self : goal.returns-then-block-self
returns-then-block-self c = still_passed c.args.self.now c.args.block.now c.still_in-still.result c.still_in-still.ensures

pub returns : goal.returns
returns c =
    going_passed c.args.self.now c.args.block.now c.requires c.if-block-self.false c.still_in-still.result c.eights_at.result c.joined.result
    c.still_in-still.ensures c.eights_at.ensures c.joined.ensures
