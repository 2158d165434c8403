use Rattle.coincidence.proofs.Steady.{plain_found}
use Rattle.coincidence.proofs.rules.plain_with.Goals as goal

pub returns : goal.returns
returns c = plain_found c.args.answers.now c.args.missing c.requires
