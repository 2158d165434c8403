use Rattle.std.proofs.Common.{◌∙◌, ◌+◌, ap, arith, false, slice_index_or}
use Rattle.site_types.specs.Bits.{mask_of}
use Rattle.site_types.proofs.Masks.{mask_same}
use Rattle.plain_history.proofs.numbered.numbers_that.Goals as goal

pub returns : goal.returns
returns g c test each =
    c.mask_from_32.ensures
    ∙ ap (λ n. mask_of n (λ k. slice_index_or c.loop-bit.flags k false)) c.loop-bit.invariant.0
    ∙ mask_same 32 (λ k. slice_index_or c.loop-bit.flags k false) (λ k. test (k + 1))
    (λ k small. each (k + 1) _ (omega arith) (omega (arith, small)) (c.loop-bit.invariant.1 k (omega (arith, small, c.loop-bit-test.false))))
