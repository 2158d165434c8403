use Rattle.std.proofs.lemmas.Bool.{eqb-true}
use Rattle.coincidence.proofs.BlockWords.{all_at_rest}
use Rattle.coincidence.proofs.decide.Decide.all_rest.Goals as goal

pub returns : goal.returns
returns c is =
    all_at_rest c.args.self.now c.args.block.now c.requires.numbers c.requires.quiet c.resting_in.result (eqb-true _ 4294967295 is) c.resting_in.ensures
