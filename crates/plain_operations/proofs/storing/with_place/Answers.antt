use Rattle.std.proofs.Common.{sym}
use Rattle.plain_operations.proofs.ChangesMade.{bit_gone}
use Rattle.plain_operations.proofs.storing.with_place.Goals as goal

pub returns-else-place-lt8 : goal.returns-else-place-lt8
returns-else-place-lt8 c = sym (bit_gone c.args.mask c.args.place c.args.on c.ranges.mask.fits c.if-place-lt8.false)
