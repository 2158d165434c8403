use Rattle.std.proofs.Common.{◌∙◌, ap, length, arith}
use Rattle.retained_journal.specs.Fields.{number_at}
use Rattle.retained_journal.proofs.Agreement.{number-agrees}
use Rattle.retained_journal.proofs.Writing.{short_back}
use Rattle.retained_journal.proofs.WrittenSlots.{sized}
use Rattle.retained_journal.proofs.cell_bytes.counting.Goals as goal

pub returns-clause-entries : goal.returns-clause-entries
returns-clause-entries c =
    number-agrees 4 c.put.new.bytes 4 c.write_u32.new.buf 0 (sized 4 (length c.write_u32.new.buf) c.put.new.bytes 4 c.write_u32.new.buf (omega arith)
    c.put.ensures.inside)
    ∙ ap (number_at 4 0) c.write_u32.ensures ∙ short_back c.args.entries _ (let h = c.ranges.entries in omega (arith, h.fits))
