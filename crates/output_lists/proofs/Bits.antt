-- Bits of masks of 32 outputs.
use Rattle.std.proofs.Common.{◌≡◌, ◌<◌, ℕ, Bool, ◌∙◌, ap}
use Rattle.site_types.specs.Bits.{has_bit, mask_of}
use Rattle.site_types.proofs.Masks.{has_bit-mask}

-- each bit of a mask is its test
pub bit_is : (mask : ℕ) (test : ℕ → Bool) → mask ≡ mask_of 32 test → (k : ℕ) → k < 32 → has_bit mask k ≡ test k
bit_is mask test is k small = ap (λ m. has_bit m k) is ∙ has_bit-mask 32 test k small
