use Rattle.coincidence.proofs.PlainlyFound.{passed_below}
use Rattle.coincidence.proofs.decide.Decide.next_changing.Goals as goal

pub returns : goal.returns
returns c =
    let low = c.lowest_from.ensures in
    passed_below c.args.self.now c.args.block.now c.passing_in.result c.args.place c.lowest_from.result c.passing_in.type_inv c.passing_in.ensures
    low.least low.most low.none
