use Rattle.coincidence.proofs.ZoneMasks.{block_told}
use Rattle.coincidence.proofs.rules.telling_block.Goals as goal

pub returns : goal.returns
returns c = block_told c.args.answers.now c.args.zones.now c.silent_in.result c.requires c.silent_in.ensures
