-- The mask of four flags.
use Rattle.std.proofs.Common.{◌≡◌, ℕ, Bool, false, [], ◌∷◌, slice_index_or, refl, sym}
use Rattle.site_types.specs.Bits.{mask_of}

-- four flags make the mask of the tests that they are
pub mask_of_four : (a b c d : Bool) (test : ℕ → Bool) → a ≡ test 0 → b ≡ test 1 → c ≡ test 2 → d ≡ test 3
    → mask_of 4 (λ k. slice_index_or (a ∷ b ∷ c ∷ d ∷ []) k false) ≡ mask_of 4 test
unfolding mask_of
mask_of_four a b c d test pa pb pc pd = rw (pa, pb, pc, pd) refl

-- where no test holds, the mask is 0
pub none_of_four : (test : ℕ → Bool) → false ≡ test 0 → false ≡ test 1 → false ≡ test 2 → false ≡ test 3 → 0 ≡ mask_of 4 test
unfolding mask_of
none_of_four test pa pb pc pd = rw (sym pa, sym pb, sym pc, sym pd) refl
