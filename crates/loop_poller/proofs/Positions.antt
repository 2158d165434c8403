-- The first place at which a test holds, as a list grows.
use Rattle.std.proofs.Common.{◌≡◌, ℕ, zero, suc, ◌+◌, ◌≤◌, List, [], ◌∷◌, ◌++◌, length, Option, Some, None, Bool}
use Rattle.std.proofs.Common.{true, false, not, cond, nat_eq, nat_lt, slice_get, refl, sym, ◌∙◌, ap, arith}
use Rattle.std.proofs.Common.{length-append}
use Rattle.std.specs.List.{find, position, position_or_len, prefix_len}
use Rattle.std.proofs.lemmas.Bool.Decides.{nat_tests}
use Rattle.std.proofs.lemmas.List.Folds.{position_or_len_push}

prefix_case : (b : Bool) (n m : ℕ) → n ≤ m → cond b (1 + n) 0 ≤ suc m
prefix_case true n m h = omega arith
prefix_case false n m h = omega arith

prefix_within : {X : Type 0} (p : X → Bool) (xs : List X) → prefix_len p xs ≤ length xs
prefix_within p [] = omega arith
prefix_within p (x ∷ xs) = prefix_case (p x) (prefix_len p xs) (length xs) (prefix_within p xs)

abbrev at_first : ℕ → ℕ → Option ℕ
at_first i n = cond (nat_lt i n) (Some i) None

push_same : (i n : ℕ) → i ≤ n → at_first (cond (nat_eq i n) (n + 1) i) (n + 1) ≡ at_first i n
push_same i n h = grind (arith, nat_tests)

push_new : (i n : ℕ) → i ≤ n → at_first i n ≡ None → at_first (cond (nat_eq i n) (n + 0) i) (n + 1) ≡ Some n
push_new i n h none = grind (arith, nat_tests)

module _ {X : Type 0} (p : X → Bool) (xs : List X) (x : X) where
  pub position_same : p x ≡ false → position p (xs ++ x ∷ []) ≡ position p xs
  position_same fails =
      rw (position_or_len_push p xs x, length-append xs (x ∷ []), fails)
      (push_same (position_or_len p xs) (length xs) (prefix_within (λ y. not (p y)) xs))

  pub position_new : p x ≡ true → position p xs ≡ None → position p (xs ++ x ∷ []) ≡ Some (length xs)
  position_new holds none =
      rw (position_or_len_push p xs x, length-append xs (x ∷ []), holds)
      (push_new (position_or_len p xs) (length xs) (prefix_within (λ y. not (p y)) xs) none)

-- what is found lies in the list, and passes the test
pub record IsFound {X : Type 0} (p : X → Bool) (xs : List X) (x : X) : Type 0 where
  pub place : ℕ
  pub is : slice_get xs place ≡ Some x
  pub passes : p x ≡ true

found_later : {X : Type 0} (p : X → Bool) (xs : List X) (x y : X) → IsFound p xs x → IsFound p (y ∷ xs) x
found_later p xs x y found = record { place = suc found.place; is = found.is; passes = found.passes }

found_case : {X : Type 0} (p : X → Bool) (y : X) (ys : List X) (x : X) (b : Bool) → p y ≡ b → cond b (Some y) (find p ys) ≡ Some x
    → (find p ys ≡ Some x → IsFound p ys x) → IsFound p (y ∷ ys) x
found_case p y ys x true holds h later = let same : y ≡ x = cc in record { place = zero; is = ap Some same; passes = ap p (sym same) ∙ holds }
found_case p y ys x false fails h later = found_later p ys x y (later h)

pub found_at : {X : Type 0} (p : X → Bool) (xs : List X) (x : X) → find p xs ≡ Some x → IsFound p xs x
found_at p [] x h = absurd cc
found_at p (y ∷ ys) x h = found_case p y ys x (p y) refl h (found_at p ys x)

none_case : {X : Type 0} (b : Bool) (y : X) (rest : Option X) → cond b (Some y) rest ≡ None → (b ≡ false) × (rest ≡ None)
none_case true y rest none = cc
none_case false y rest none = (refl, none)

-- where nothing is found, nothing passes
pub none_passes : {X : Type 0} (p : X → Bool) (xs : List X) (k : ℕ) (x : X) → find p xs ≡ None → slice_get xs k ≡ Some x → p x ≡ false
none_passes p [] k x none is = cc
none_passes p (y ∷ ys) zero x none is = let same : y ≡ x = cc in ap p (sym same) ∙ (none_case (p y) y (find p ys) none).0
none_passes p (y ∷ ys) (suc k) x none is = none_passes p ys k x (none_case (p y) y (find p ys) none).1 is
