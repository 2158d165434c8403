-- A list whose items are taken one after another.
use Rattle.std.proofs.Common.{◌≡◌, ◌≢◌, ◌⊎◌, inl, inr, ℕ, zero, suc, ◌+◌, ◌≤◌, ◌<◌, List, [], ◌∷◌, set, length, get_or, Some, slice_get, refl, sym, ◌∙◌, ap, subst, arith}
use Rattle.std.proofs.Math.ListN.{length-set}
use Rattle.std.specs.Vec.{with_items}
use Rattle.std.specs.declared.vec.Vec.{Vec}
use Rattle.std.proofs.lemmas.List.{with_items_is}
use Rattle.std.proofs.lemmas.Option.{same_Some, slice_get-get_or, slice_get_within}

-- what is written to the items of a vector
pub written : {X Z : Type 0} (items : Vec X Z) (told : List X) → length told ≡ length items.items → (with_items items told).items ≡ told
written items told same = let as_long : length told ≡ items.len = omega (arith, same, items.ok) in with_items_is items told as_long

-- what stands in a list in which one item was set
get_set : {X : Type 0} (xs : List X) (k : ℕ) (x : X) (j : ℕ) (y : X) → slice_get (set xs k x) j ≡ Some y
    → ((j ≡ k) × (x ≡ y)) ⊎ ((j ≢ k) × (slice_get xs j ≡ Some y))
get_set [] k x j y at = absurd (cc)
get_set (z ∷ xs) zero x zero y at = inl (refl, same_Some x y at)
get_set (z ∷ xs) zero x (suc j) y at = inr ((λ e. cc), at)
get_set (z ∷ xs) (suc k) x zero y at = inr ((λ e. cc), at)
get_set (z ∷ xs) (suc k) x (suc j) y at =
    elim (get_set xs k x j y at) [
      | inl h ↦ inl (ap suc h.0, h.1)
      | inr h ↦ inr ((λ e. h.0 (omega (arith, e))), h.1)
    ]

-- the first items are as they are to be, the others as they were
pub record ArePartly {X : Type 0} (Old New : ℕ → X → Type 0) (count first : ℕ) (xs : List X) : Type 0 where
  pub many : length xs ≡ count
  pub taken : (k : ℕ) (x : X) → k < first → slice_get xs k ≡ Some x → New k x
  pub left : (k : ℕ) (x : X) → first ≤ k → slice_get xs k ≡ Some x → Old k x

module _ {X : Type 0} (Old New : ℕ → X → Type 0) (count : ℕ) where
  pub none_taken : (xs : List X) → length xs ≡ count → ((k : ℕ) (x : X) → slice_get xs k ≡ Some x → Old k x) → ArePartly Old New count 0 xs
  none_taken xs many each = record {
    many = many;
    taken = λ k x less at. absurd (omega (arith, less));
    left = λ k x less at. each k x at;
  }

  pub one_taken : (first : ℕ) (xs : List X) (old new : X) → first < length xs → (Old first (get_or xs first old) → New first new)
      → ArePartly Old New count first xs → ArePartly Old New count (first + 1) (set xs first new)
  one_taken first xs old new within step partly = record {
    many = (let many = partly.many in omega (arith, many, length-set xs first new));
    taken = λ k x less at.
        elim (get_set xs first new k x at) [
          | inl here ↦
              subst (New k) here.1
              (subst (λ j. New j new) (sym here.0) (step (partly.left first (get_or xs first old) (omega arith) (slice_get-get_or xs first old within))))
          | inr other ↦ partly.taken k x (let apart = other.0 in omega (arith, less, apart)) other.1
        ];
    left = λ k x from at.
        elim (get_set xs first new k x at) [
          | inl here ↦ absurd (let same = here.0 in omega (arith, from, same))
          | inr other ↦ partly.left k x (omega (arith, from)) other.1
        ];
  }

  pub all_taken : (first : ℕ) (xs : List X) → length xs ≤ first → ArePartly Old New count first xs → (k : ℕ) (x : X) → slice_get xs k ≡ Some x → New k x
  all_taken first xs past partly k x at = partly.taken k x (let within = slice_get_within xs k x at in omega (arith, within, past)) at

-- what was read at a place
pub got_at : {X : Type 0} (xs : List X) (k : ℕ) (x : X) → k < length xs → x ≡ get_or xs k x → slice_get xs k ≡ Some x
got_at xs k x less is = slice_get-get_or xs k x less ∙ ap Some (sym is)
