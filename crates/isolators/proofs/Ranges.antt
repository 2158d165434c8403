-- Tests over the numbers from one on.
use Rattle.std.proofs.Common.{◌≡◌, ℕ, zero, suc, ◌+◌, ◌<◌, ◌≤◌, [], ◌∷◌, ◌++◌, Bool, true, false, ◌||◌, ◌&&◌, refl, ◌∙◌, ap, arith, add-one}
use Rattle.std.specs.List.{list_any, list_all, range_with_len}
use Rattle.std.proofs.lemmas.List.Folds.{list_any-append}
use native.Mathlib.Decide.{dec_lt}

range-suc : (a n : ℕ) → range_with_len a (suc n) ≡ range_with_len a n ++ (a + n) ∷ []
range-suc a zero = ap (λ k. k ∷ []) (omega arith)
range-suc a (suc n) = ap (λ xs. a ∷ xs) (range-suc (a + 1) n ∙ ap (λ k. range_with_len (a + 1) n ++ k ∷ []) (omega arith))

pub range-more : (a n : ℕ) → range_with_len a (n + 1) ≡ range_with_len a n ++ (a + n) ∷ []
range-more a n = rw add-one (range-suc a n)

or_false : (b : Bool) → (b || false) ≡ b
or_false true = refl
or_false false = refl

-- one number more
pub any-more : (test : ℕ → Bool) (n : ℕ) → list_any test (range_with_len 0 (n + 1)) ≡ (list_any test (range_with_len 0 n) || test n)
any-more test n =
    ap (list_any test) (range-more 0 n)
    ∙ list_any-append test (range_with_len 0 n) ((0 + n) ∷ [])
    ∙ ap (λ b. list_any test (range_with_len 0 n) || b) (or_false (test (0 + n)) ∙ ap test (omega arith))

-- the test holds throughout
pub all_true : (test : ℕ → Bool) (a n : ℕ) → ((k : ℕ) → a ≤ k → k < a + n → test k ≡ true) → list_all test (range_with_len a n) ≡ true
all_true test a zero holds = refl
all_true test a (suc n) holds =
    let here : test a ≡ true = holds a (omega arith) (omega arith) in
    let rest : list_all test (range_with_len (a + 1) n) ≡ true = all_true test (a + 1) n (λ k low high. holds k (omega arith) (omega arith)) in
    rw (here, rest) refl

and_false : (b : Bool) → (b && false) ≡ false
and_false true = refl
and_false false = refl

-- the test fails somewhere
pub all_false : (test : ℕ → Bool) (a n k : ℕ) → a ≤ k → k < a + n → test k ≡ false → list_all test (range_with_len a n) ≡ false
all_false test a zero k low high fails = absurd (omega arith)
all_false test a (suc n) k low high fails =
    elim (dec_lt a k) [
      | yes less ↦ (let rest : list_all test (range_with_len (a + 1) n) ≡ false = all_false test (a + 1) n k (omega arith) (omega arith) fails in
          rw rest (and_false (test a)))
      | no not_less ↦ (let same : a ≡ k = omega arith in let here : test a ≡ false = ap test same ∙ fails in rw here refl)
    ]
