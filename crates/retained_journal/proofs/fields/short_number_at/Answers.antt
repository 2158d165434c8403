use Rattle.std.proofs.Common.{◌-◌, length, arith}
use Rattle.retained_journal.proofs.Reading.{number_at-range}
use Rattle.retained_journal.proofs.fields.short_number_at.Goals as goal

pub returns : goal.returns
returns c = rw (← number_at-range 4 (length c.args.bytes.now - c.args.at) c.args.at c.args.bytes.now (omega arith)) c.read_u32.ensures
