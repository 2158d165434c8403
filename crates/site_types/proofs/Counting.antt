-- A list whose items have different numbers below a bound is no longer than that bound.
use Rattle.std.proofs.Common.{◌≡◌, ◌≤◌, ◌<◌, inl, inr, ℕ, suc, true, false, List, [], ◌∷◌, Some, refl, ap, map, length, arith}
use Rattle.std.specs.Prelude.{slice_get, nat_eq, All}
use Rattle.std.specs.List.{AllByRecursion, IsDistinct, list_any}
use Rattle.std.proofs.lemmas.Bool.{ne_eqb, or_cases, eqb-true}
use Rattle.std.proofs.lemmas.List.Elements.{All-head, All-tail}
use Rattle.std.proofs.lemmas.Map.Steps.{length-le_from_distinct_below}

-- no two places of a list have the same number
abbrev pub IsNumbered : {X : Type 0} → (X → ℕ) → List X → Type 0
IsNumbered {X} code xs = (j k : ℕ) (a b : X) → slice_get xs j ≡ Some a → slice_get xs k ≡ Some b → code a ≡ code b → j ≡ k

apart_from : {X : Type 0} (code : X → ℕ) (x : X) (rest : List X) → ((k : ℕ) (b : X) → slice_get rest k ≡ Some b → code x ≡ code b → ⊥) →
    AllByRecursion (λ y. nat_eq (code x) y ≡ false) (map code rest)
apart_from code x [] none = tt
apart_from code x (y ∷ rest) none = (ne_eqb (code x) (code y) (none 0 y refl), apart_from code x rest (λ k b at. none (suc k) b at))

distinct : {X : Type 0} (code : X → ℕ) (xs : List X) → IsNumbered code xs → IsDistinct nat_eq (map code xs)
unfolding IsDistinct
distinct code [] u = tt
distinct code (x ∷ rest) u = (
  apart_from code x rest (λ k b at same. let e : 0 ≡ suc k = u 0 (suc k) x b refl at same in omega (arith, e)),
  distinct code rest (λ j k a b p q same. let e : suc j ≡ suc k = u (suc j) (suc k) a b p q same in omega (arith, e)),
)

below : {X : Type 0} (code : X → ℕ) (n : ℕ) (xs : List X) → All (λ x. code x < n) xs → (q : ℕ) → list_any (nat_eq q) (map code xs) ≡ true → q < n
below code n [] all q has = cc
below code n (x ∷ rest) all q has = elim (or_cases (nat_eq q (code x)) (list_any (nat_eq q) (map code rest)) has) [
  | inl here ↦ (let e = eqb-true q (code x) here in let small = All-head (λ y. code y < n) x rest all in omega (arith, e, small))
  | inr later ↦ below code n rest (All-tail (λ y. code y < n) x rest all) q later
]

length_map : {X : Type 0} (code : X → ℕ) (xs : List X) → length (map code xs) ≡ length xs
length_map code [] = refl
length_map code (x ∷ rest) = ap suc (length_map code rest)

pub few : {X : Type 0} (code : X → ℕ) (n : ℕ) (xs : List X) → All (λ x. code x < n) xs → IsNumbered code xs → length xs ≤ n
few code n xs all u =
    let counted = length-le_from_distinct_below (map code xs) n (distinct code xs u) (below code n xs all) in
    omega (arith, counted, length_map code xs)
