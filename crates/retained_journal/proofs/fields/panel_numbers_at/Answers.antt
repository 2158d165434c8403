use Rattle.std.proofs.Common.{◌+◌, ◌-◌, arith}
use Rattle.retained_journal.proofs.Reading.{numbers_at-read}
use Rattle.retained_journal.proofs.fields.panel_numbers_at.Goals as goal

pub returns : goal.returns
returns c =
    let at = c.args.at in
    numbers_at-read at (at + 32 - at) c.args.bytes.now c.read_u32_into.new.dst (omega arith) (omega arith) c.read_u32_into.ensures
