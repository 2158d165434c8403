use Rattle.std.proofs.Common.{◌∙◌, ap}
use Rattle.retained_journal.specs.Fields.{numbers_at}
use Rattle.retained_journal.proofs.Writing.{numbers_back}
use Rattle.retained_journal.proofs.slot_bytes.numbers_bytes.Goals as goal

pub returns : goal.returns
returns c = ap (numbers_at 0) c.write_u32_into.ensures ∙ numbers_back c.args.numbers.now c.told-numbers (λ k less. c.fits-numbers k)
