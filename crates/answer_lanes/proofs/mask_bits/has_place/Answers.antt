use Rattle.std.proofs.Common.{sym}
use Rattle.site_types.proofs.Masks.{has_bit-above}
use Rattle.answer_lanes.proofs.mask_bits.has_place.Goals as goal

pub returns-else-place-lt8 : goal.returns-else-place-lt8
returns-else-place-lt8 c = sym (has_bit-above 8 c.args.mask c.args.place c.ranges.mask.fits c.if-place-lt8.false)
