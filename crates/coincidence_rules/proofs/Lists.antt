-- Tests over lists, and what stands at a place.
use Rattle.std.proofs.Common.{◌≡◌, ◌⊎◌, inl, inr, ℕ, zero, suc, ◌+◌, ◌<◌, ◌≤◌, Bool, true, false, List, []}
use Rattle.std.proofs.Common.{◌≢◌, ⊎_elim, set, ◌∷◌, ◌++◌, length, take, Some, slice_get, ◌&&◌, ◌||◌, nat_le, refl, sym, ◌∙◌, ap, subst, arith, zero-add}
use Rattle.std.proofs.lemmas.Bool.{or_left as left_of_or, or_right as right_of_or}
use Rattle.std.proofs.lemmas.Bool.Decides.{nat_tests}
use Rattle.std.specs.List.{list_any, list_all}

pub and_both : (a b : Bool) → (a && b) ≡ true → (a ≡ true) × (b ≡ true)
and_both true true h = (refl, refl)
and_both true false h = cc
and_both false b h = cc

pub both_and : (a b : Bool) → a ≡ true → b ≡ true → (a && b) ≡ true
both_and true true h g = refl
both_and true false h g = cc
both_and false b h g = cc

pub or_either : (a b : Bool) → (a || b) ≡ true → (a ≡ true) ⊎ (b ≡ true)
or_either true b h = inl refl
or_either false b h = inr h

pub or_left : (a b : Bool) → a ≡ true → (a || b) ≡ true
or_left = left_of_or

pub or_right : (a b : Bool) → b ≡ true → (a || b) ≡ true
or_right = right_of_or

pub and_false : (a b : Bool) → b ≡ false → (a && b) ≡ false
and_false true b h = h
and_false false b h = refl

pub and_true : (a b : Bool) → b ≡ true → (a && b) ≡ a
and_true true b h = h
and_true false b h = refl

pub or_false : (a b : Bool) → b ≡ false → (a || b) ≡ a
or_false true b h = refl
or_false false b h = h

-- one of two places is not after the other, or the other is before it
pub order_of : (j k : ℕ) → (j ≤ k) ⊎ (k < j)
order_of j k = either (nat_le j k) refl
  where
    either : (b : Bool) → nat_le j k ≡ b → (j ≤ k) ⊎ (k < j)
    either true e = inl (grind (arith, nat_tests, e))
    either false e = inr (grind (arith, nat_tests, e))

-- two tests that hold alike are one
pub same_test : (a b : Bool) → (a ≡ true → b ≡ true) → (b ≡ true → a ≡ true) → a ≡ b
same_test true b f g = sym (f refl)
same_test false true f g = g refl
same_test false false f g = refl

module _ {X : Type 0} where
  pub any_place : (test : X → Bool) (xs : List X) → list_any test xs ≡ true → (k : ℕ) × (x : X) × (slice_get xs k ≡ Some x) × (test x ≡ true)
  any_place test [] h = cc
  any_place test (x ∷ xs) h = go (test x) refl h (any_place test xs)
    where
      go : (b : Bool) → test x ≡ b → (b || list_any test xs) ≡ true
          → (list_any test xs ≡ true → (k : ℕ) × (y : X) × (slice_get xs k ≡ Some y) × (test y ≡ true))
          → (k : ℕ) × (y : X) × (slice_get (x ∷ xs) k ≡ Some y) × (test y ≡ true)
      go true e g f = (0, x, refl, e)
      go false e g f = let r = f g in (suc r.0, r.1, r.2, r.3)

  pub place_any : (test : X → Bool) (xs : List X) (k : ℕ) (x : X) → slice_get xs k ≡ Some x → test x ≡ true → list_any test xs ≡ true
  place_any test [] k x h t = cc
  place_any test (y ∷ ys) zero x h t = let e : y ≡ x = cc in ap (λ b. b || list_any test ys) (ap test e ∙ t)
  place_any test (y ∷ ys) (suc k) x h t = or_right (test y) (list_any test ys) (place_any test ys k x h t)

  pub place_all : (test : X → Bool) (xs : List X) → ((k : ℕ) (x : X) → slice_get xs k ≡ Some x → test x ≡ true) → list_all test xs ≡ true
  place_all test [] h = refl
  place_all test (x ∷ xs) h = both_and (test x) (list_all test xs) (h 0 x refl) (place_all test xs (λ k y at. h (suc k) y at))

  pub all_place : (test : X → Bool) (xs : List X) → list_all test xs ≡ true → (k : ℕ) (x : X) → slice_get xs k ≡ Some x → test x ≡ true
  all_place test [] h k x at = cc
  all_place test (y ∷ xs) h zero x at = let e : y ≡ x = cc in subst (λ z. test z ≡ true) e (and_both (test y) (list_all test xs) h).0
  all_place test (y ∷ xs) h (suc k) x at = all_place test xs (and_both (test y) (list_all test xs) h).1 k x at

  pub get_small : (xs : List X) (k : ℕ) (x : X) → slice_get xs k ≡ Some x → k < length xs
  get_small [] k x h = cc
  get_small (y ∷ xs) zero x h = omega arith
  get_small (y ∷ xs) (suc k) x h = omega (arith, get_small xs k x h)

  pub same_place : (xs : List X) (i j : ℕ) (x y : X) → i ≡ j → slice_get xs i ≡ Some x → slice_get xs j ≡ Some y → x ≡ y
  same_place xs i j x y e f g = let h : slice_get xs j ≡ Some x = subst (λ k. slice_get xs k ≡ Some x) e f in cc (h, g)

  -- tests that agree on each item agree on the list
  pub any_same : (f g : X → Bool) (xs : List X) → ((k : ℕ) (x : X) → slice_get xs k ≡ Some x → f x ≡ g x) → list_any f xs ≡ list_any g xs
  any_same f g [] h = refl
  any_same f g (x ∷ xs) h = ap (λ b. b || list_any f xs) (h 0 x refl) ∙ ap (λ b. g x || b) (any_same f g xs (λ k y at. h (suc k) y at))

  pub all_same : (f g : X → Bool) (xs : List X) → ((k : ℕ) (x : X) → slice_get xs k ≡ Some x → f x ≡ g x) → list_all f xs ≡ list_all g xs
  all_same f g [] h = refl
  all_same f g (x ∷ xs) h = ap (λ b. b && list_all f xs) (h 0 x refl) ∙ ap (λ b. g x && b) (all_same f g xs (λ k y at. h (suc k) y at))

  pub any_or : (f g : X → Bool) (xs : List X) → list_any (λ x. f x || g x) xs ≡ (list_any f xs || list_any g xs)
  any_or f g [] = refl
  any_or f g (x ∷ xs) = ap (λ b. (f x || g x) || b) (any_or f g xs) ∙ mixed (f x) (g x) (list_any f xs) (list_any g xs)
    where
      mixed : (a b c d : Bool) → ((a || b) || (c || d)) ≡ ((a || c) || (b || d))
      mixed true b c d = refl
      mixed false true true d = refl
      mixed false true false d = refl
      mixed false false c d = refl

  -- what stands at a place of a front stands there in the whole, and what follows a front stands behind it
  pub get_left : (xs ys : List X) (k : ℕ) (x : X) → slice_get xs k ≡ Some x → slice_get (xs ++ ys) k ≡ Some x
  get_left [] ys k x h = cc
  get_left (y ∷ xs) ys zero x h = h
  get_left (y ∷ xs) ys (suc k) x h = get_left xs ys k x h

  pub get_right : (xs ys : List X) (k : ℕ) (x : X) → slice_get ys k ≡ Some x → slice_get (xs ++ ys) (length xs + k) ≡ Some x
  get_right [] ys k x h = subst (λ n. slice_get ys n ≡ Some x) (sym (zero-add k)) h
  get_right (y ∷ xs) ys k x h = subst (λ n. slice_get (y ∷ (xs ++ ys)) n ≡ Some x) (behind (length xs)) (get_right xs ys k x h)
    where
      behind : (n : ℕ) → suc (n + k) ≡ suc n + k
      behind n = omega arith

  -- an item of a joined list stands in one of the two
  pub get_either : (xs ys : List X) (k : ℕ) (x : X) → slice_get (xs ++ ys) k ≡ Some x
      → (slice_get xs k ≡ Some x) ⊎ ((j : ℕ) × (k ≡ length xs + j) × (slice_get ys j ≡ Some x))
  get_either [] ys k x h = inr (k, sym (zero-add k), h)
  get_either (y ∷ xs) ys zero x h = inl h
  get_either (y ∷ xs) ys (suc k) x h = elim (get_either xs ys k x h) [
    | inl a ↦ inl a
    | inr b ↦ inr (b.0, behind (length xs) b.0 b.1, b.2)
  ]
    where
      behind : (n j : ℕ) → k ≡ n + j → suc k ≡ suc n + j
      behind n j e = omega (arith, e)

  pub get_take : (k j : ℕ) (xs : List X) (x : X) → slice_get (take k xs) j ≡ Some x → (j < k) × (slice_get xs j ≡ Some x)
  get_take zero j [] x h = cc
  get_take zero j (y ∷ ys) x h = cc
  get_take (suc k) j [] x h = cc
  get_take (suc k) zero (y ∷ ys) x h = (omega arith, h)
  get_take (suc k) (suc j) (y ∷ ys) x h = let r = get_take k j ys x h in (omega (arith, r.0), r.1)

  pub take_get : (k j : ℕ) (xs : List X) (x : X) → j < k → slice_get xs j ≡ Some x → slice_get (take k xs) j ≡ Some x
  take_get k j [] x less h = cc
  take_get zero j (y ∷ ys) x less h = absurd (omega (arith, less))
  take_get (suc k) zero (y ∷ ys) x less h = h
  take_get (suc k) (suc j) (y ∷ ys) x less h = take_get k j ys x (omega (arith, less)) h

-- what stands at a place after a write
pub get_set : {X : Type 0} (xs : List X) (i k : ℕ) (v w : X) → slice_get (set xs i v) k ≡ Some w
    → ((k ≡ i) × (v ≡ w)) ⊎ ((k ≢ i) × (slice_get xs k ≡ Some w))
get_set [] i k v w h = absurd (cc)
get_set (x ∷ xs) zero zero v w h = inl (refl, cc)
get_set (x ∷ xs) zero (suc k) v w h = inr (omega arith, h)
get_set (x ∷ xs) (suc i) zero v w h = inr (omega arith, h)
get_set (x ∷ xs) (suc i) (suc k) v w h = ⊎_elim (λ a. inl (ap suc a.0, a.1)) (λ b. inr (λ e. b.0 (pred_same e), b.1)) (get_set xs i k v w h)
  where
    pred_same : suc k ≡ suc i → k ≡ i
    pred_same e = omega (arith, e)
