use Rattle.coincidence.proofs.PlaceSets.{ones_have}
use Rattle.coincidence.proofs.bits.first_bits.Goals as goal

pub returns : goal.returns
returns c k = ones_have c.args.count c.requires k
