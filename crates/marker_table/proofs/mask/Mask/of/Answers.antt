use Rattle.marker_table.proofs.Counts.{mask_of_one}
use Rattle.marker_table.proofs.mask.Mask.of.Goals as goal

pub returns : goal.returns
returns c = mask_of_one c.args.input c.word.result c.bit.result c.with_bit_32.result c.word.ensures.value c.word.ensures.small c.bit.ensures c.with_bit_32.ensures.value
