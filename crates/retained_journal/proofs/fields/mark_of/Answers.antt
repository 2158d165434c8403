use Rattle.std.proofs.Common.{arith, slice_index, ℕ, ap, ◌∙◌}
use Rattle.std.proofs.lemmas.List.{get_or-take}
use Rattle.retained_journal.proofs.Reading.{bytes_at-range}
use Rattle.retained_journal.proofs.fields.mark_of.Goals as goal

pub returns : goal.returns
returns c =
    bytes_at-range 8 0 c.args.bytes.now c.copy_from_slice.new.self (omega arith)
    (λ k less. ap (λ xs. slice_index xs k) c.copy_from_slice.ensures.after ∙ get_or-take 8 c.args.bytes.now k 0 less ∙ ap
    (λ (j : ℕ). slice_index c.args.bytes.now j) (omega arith))
