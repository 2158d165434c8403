use Rattle.coincidence.proofs.ZoneMasks.{group_told}
use Rattle.coincidence.proofs.rules.telling_group.Goals as goal

pub returns : goal.returns
returns c k = group_told c.args.answers.now c.args.zones c.silent_bits.result k (c.silent_bits.ensures k)
