use Rattle.std.proofs.Common.{◌+◌, ◌-◌, arith, drop, slice_index, ap, ◌∙◌}
use Rattle.std.proofs.lemmas.List.{get_or-take, get_or-drop}
use Rattle.retained_journal.proofs.Reading.{bytes_at-range}
use Rattle.retained_journal.proofs.fields.digest_at.Goals as goal

pub returns : goal.returns
returns c =
    let at = c.args.at in
    bytes_at-range 32 at c.args.bytes.now c.copy_from_slice.new.self (omega arith)
    (λ k less. ap (λ xs. slice_index xs k) c.copy_from_slice.ensures.after ∙ get_or-take (at + 32 - at) (drop at c.args.bytes.now) k 0 (omega arith) ∙
    get_or-drop at c.args.bytes.now k 0)
