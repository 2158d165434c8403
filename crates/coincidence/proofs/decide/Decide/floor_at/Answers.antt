use Rattle.coincidence.proofs.decide.Decide.floor_at.Goals as goal

pub returns : goal.returns
returns c = c.floor_of.ensures c.args.zone c.index.ensures
