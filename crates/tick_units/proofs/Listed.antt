-- Lists of what there is at the numbers of a range.
use Rattle.std.proofs.Common.{◌≡◌, ◌≢◌, ◌⊎◌, inl, inr, ◌+◌, ◌<◌, ◌≤◌, ◌==◌, ◌&&◌, ◌||◌, ℕ, zero, suc, Bool, true}
use Rattle.std.proofs.Common.{false, List, [], ◌∷◌, ◌++◌, map, Option, Some, None, option_map, refl, sym, ◌∙◌, ap}
use Rattle.std.proofs.Common.{arith}
use Rattle.std.specs.List.{cons_option, filter_map, list_any, range_with_len}
use Rattle.std.proofs.lemmas.Bool.Decides.{eqb_tells}
use Rattle.std.proofs.lemmas.List.Elements.{filter_map-append}

range_more : (a n : ℕ) → range_with_len a (n + 1) ≡ range_with_len a n ++ (a + n) ∷ []
range_more a zero = let at : a + 0 ≡ a = omega arith in rw at refl
range_more a (suc n) =
    let count : suc n + 1 ≡ suc (n + 1) = omega arith in
    let at : a + suc n ≡ (a + 1) + n = omega arith in
    rw (count, at) (ap (λ xs. a ∷ xs) (range_more (a + 1) n))

module _ {X : Type 0} where
  -- what there is at one number more
  pub found_more : (f : ℕ → Option X) (n : ℕ) → filter_map f (range_with_len 0 (n + 1)) ≡ filter_map f (range_with_len 0 n) ++ cons_option (f n) []
  found_more f n =
      ap (filter_map f) (range_more 0 n)
      ∙ filter_map-append f (range_with_len 0 n) ((0 + n) ∷ [])
      ∙ ap (λ k. filter_map f (range_with_len 0 n) ++ cons_option (f k) []) (omega arith)

  -- the same at each number
  pub found_same : (f g : ℕ → Option X) (places : List ℕ) → ((k : ℕ) → f k ≡ g k) → filter_map f places ≡ filter_map g places
  found_same f g [] same = refl
  found_same f g (k ∷ places) same = ap (λ o. cons_option o (filter_map f places)) (same k) ∙ ap (cons_option (g k)) (found_same f g places same)

  -- whether what there is passes a test
  abbrev pub passes : (X → Bool) → Option X → Bool
  passes test None = false
  passes test (Some x) = test x

  module _ (f : ℕ → Option X) (place : X → ℕ) (test : X → Bool) (placed : (j : ℕ) (x : X) → f j ≡ Some x → place x ≡ j) (k : ℕ) where
    abbrev here : X → Bool
    here x = (place x == k) && test x

    apart : (x : X) → place x ≢ k → here x ≡ false
    apart x ne = elim (eqb_tells (place x) k) [
      | inl same ↦ absurd (ne same.1)
      | inr other ↦ rw other.0 refl
    ]

    at_place : (x : X) → place x ≡ k → here x ≡ test x
    at_place x is = elim (eqb_tells (place x) k) [
      | inl same ↦ rw same.0 refl
      | inr other ↦ absurd (other.1 is)
    ]

    past : (a n : ℕ) → k < a → list_any here (filter_map f (range_with_len a n)) ≡ false
    past a zero after = refl
    past a (suc n) after = go (f a) refl (past (a + 1) n (omega arith))
      where
        go : (o : Option X) → f a ≡ o → list_any here (filter_map f (range_with_len (a + 1) n)) ≡ false
            → list_any here (cons_option o (filter_map f (range_with_len (a + 1) n))) ≡ false
        go None e rest = rest
        go (Some x) e rest = let at : place x ≡ a = placed a x e in let no_way : here x ≡ false = apart x (λ is. absurd (omega arith)) in
            rw (no_way, rest) refl

    with_rest : (o : Option X) (rest : List X) → ((x : X) → o ≡ Some x → here x ≡ test x) → list_any here rest ≡ false
        → list_any here (cons_option o rest) ≡ passes test o
    with_rest None rest at none = none
    with_rest (Some x) rest at none = rw (at x refl, none) (last (test x))
      where
        last : (b : Bool) → (b || false) ≡ b
        last true = refl
        last false = refl

    from : (a n : ℕ) → a ≤ k → k < a + n → list_any here (filter_map f (range_with_len a n)) ≡ passes test (f k)
    from a zero low high = absurd (omega arith)
    from a (suc n) low high = step (eqb_tells a k) (λ ne. from (a + 1) n (omega arith) (omega arith))
      where
        later : (o : Option X) → f a ≡ o → a ≢ k → list_any here (filter_map f (range_with_len (a + 1) n)) ≡ passes test (f k)
            → list_any here (cons_option o (filter_map f (range_with_len (a + 1) n))) ≡ passes test (f k)
        later None e ne rest = rest
        later (Some x) e ne rest = let at : place x ≡ a = placed a x e in let no_way : here x ≡ false = apart x (λ is. ne (sym at ∙ is)) in
            rw no_way rest

        step : (((a == k) ≡ true) × (a ≡ k)) ⊎ (((a == k) ≡ false) × (a ≢ k))
            → (a ≢ k → list_any here (filter_map f (range_with_len (a + 1) n)) ≡ passes test (f k)) →
            list_any here (cons_option (f a) (filter_map f (range_with_len (a + 1) n))) ≡ passes test (f k)
        step (inl same) rest =
            with_rest (f a) (filter_map f (range_with_len (a + 1) n)) (λ x e. at_place x (placed a x e ∙ same.1))
            (past (a + 1) n (omega (arith, same.1)))
            ∙ ap (λ j. passes test (f j)) same.1
        step (inr other) rest = later (f a) refl other.1 (rest other.1)

    -- of a list of what there is at each number, one at this number passes exactly where what there is does
    pub any_at : (n : ℕ) → k < n → list_any (λ x. (place x == k) && test x) (filter_map f (range_with_len 0 n)) ≡ passes test (f k)
    any_at n small = from 0 n (omega arith) (omega arith)

module _ {X Y : Type 0} (h : X → Y) where
  map_cons : (o : Option X) (p : Option Y) (xs : List X) (ys : List Y) → option_map h o ≡ p → map h xs ≡ ys
      → map h (cons_option o xs) ≡ cons_option p ys
  map_cons None None xs ys e rest = rest
  map_cons None (Some y) xs ys e rest = cc
  map_cons (Some x) None xs ys e rest = cc
  map_cons (Some x) (Some y) xs ys e rest = let same : h x ≡ y = cc in rw (same, rest) refl

  -- what a function makes of what there is at each number
  pub map_found : (f : ℕ → Option X) (g : ℕ → Option Y) (places : List ℕ) → ((k : ℕ) → option_map h (f k) ≡ g k)
      → map h (filter_map f places) ≡ filter_map g places
  map_found f g [] same = refl
  map_found f g (k ∷ places) same = map_cons (f k) (g k) (filter_map f places) (filter_map g places) (same k) (map_found f g places same)
