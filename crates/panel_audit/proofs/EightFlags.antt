-- The mask of eight flags is that of a test which each of them tells.
use Rattle.std.proofs.Common.{◌≡◌, ◌<◌, ℕ, zero, suc, Bool, false, [], ◌∷◌, arith, get_or}
use Rattle.site_types.specs.Bits.{mask_of}
use Rattle.site_types.proofs.Masks.{mask_same}

module _ (test : ℕ → Bool) (a b c d e f g h : Bool) (is_a : a ≡ test 0) (is_b : b ≡ test 1) (is_c : c ≡ test 2) (is_d : d ≡ test 3)
    (is_e : e ≡ test 4) (is_f : f ≡ test 5) (is_g : g ≡ test 6) (is_h : h ≡ test 7) where
  flag_at : (k : ℕ) → k < 8 → get_or (a ∷ b ∷ c ∷ d ∷ e ∷ f ∷ g ∷ h ∷ []) k false ≡ test k
  flag_at zero low = is_a
  flag_at (suc zero) low = is_b
  flag_at (suc (suc zero)) low = is_c
  flag_at (suc (suc (suc zero))) low = is_d
  flag_at (suc (suc (suc (suc zero)))) low = is_e
  flag_at (suc (suc (suc (suc (suc zero))))) low = is_f
  flag_at (suc (suc (suc (suc (suc (suc zero)))))) low = is_g
  flag_at (suc (suc (suc (suc (suc (suc (suc zero))))))) low = is_h
  flag_at (suc (suc (suc (suc (suc (suc (suc (suc k)))))))) low = absurd (omega (arith, low))

  pub mask_of_flags : mask_of 8 (λ k. get_or (a ∷ b ∷ c ∷ d ∷ e ∷ f ∷ g ∷ h ∷ []) k false) ≡ mask_of 8 test
  mask_of_flags = mask_same 8 (λ k. get_or (a ∷ b ∷ c ∷ d ∷ e ∷ f ∷ g ∷ h ∷ []) k false) test flag_at
