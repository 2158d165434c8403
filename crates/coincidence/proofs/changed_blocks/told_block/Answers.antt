use Rattle.coincidence.proofs.PlainlyFound.{told_in_words}
use Rattle.coincidence.proofs.changed_blocks.told_block.Goals as goal

pub returns : goal.returns
returns c =
    told_in_words c.args.answers.now c.args.zones.now c.args.found.now c.parted-2.result c.parted.result c.requires c.parted-2.ensures c.parted.ensures
