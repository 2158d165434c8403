use Rattle.std.proofs.Common.{◌-◌, length, arith}
use Rattle.retained_journal.proofs.Reading.{mask_at-range}
use Rattle.retained_journal.proofs.fields.points_mask_at.Goals as goal

pub returns : goal.returns
returns c = rw (← mask_at-range 12 (length c.args.bytes.now - c.args.at) c.args.at c.args.bytes.now (omega arith)) c.read_uint128.ensures
