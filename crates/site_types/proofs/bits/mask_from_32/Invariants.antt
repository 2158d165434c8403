use Rattle.std.proofs.Common.{◌≡◌, false, slice_index_or}
use Rattle.site_types.specs.Bits.{mask_of}
use Rattle.site_types.proofs.bits.mask_from_32.Given as goal

abbrev pub invariant-loop-k : goal.invariant-loop-k
invariant-loop-k l = l.mask ≡ mask_of l.k (λ k. slice_index_or l.flags k false)
