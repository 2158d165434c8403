-- Bits of masks of 32 outputs.
use Rattle.std.proofs.Common.{◌≡◌, ◌&&◌, ℕ, Bool, true, false, refl, sym, ◌∙◌}
use Rattle.site_types.specs.Bits.{mask_of}
use Rattle.site_types.proofs.Masks.{has_bit-mask, mask_below, mask_empty}

pub and_true : (b : Bool) → (b && true) ≡ b
and_true true = refl
and_true false = refl

pub and_false : (b : Bool) → (b && false) ≡ false
and_false true = refl
and_false false = refl

-- the mask of no output
pub none_set : (test : ℕ → Bool) → ((k : ℕ) → test k ≡ false) → 0 ≡ mask_of 32 test
none_set test none = sym (mask_empty 32 (mask_of 32 test) (mask_below 32 test) (λ k small. has_bit-mask 32 test k small ∙ none k))
