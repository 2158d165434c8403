-- Tests joined by and and or, and over lists.
use Rattle.std.proofs.Common.{◌≡◌, ℕ, zero, suc, List, [], ◌∷◌, map, Some, slice_get, ◌⊎◌, inl, inr, Bool, true, false, not, ◌&&◌, ◌||◌, refl, sym, ◌∙◌, ap}
use Rattle.std.specs.List.{list_any, list_all}

pub both : (a b : Bool) → a ≡ true → b ≡ true → (a && b) ≡ true
both true true p q = refl
both true false p q = cc
both false b p q = cc

pub parts : (a b : Bool) → (a && b) ≡ true → (a ≡ true) × (b ≡ true)
parts true true h = (refl, refl)
parts true false h = cc
parts false b h = cc

pub either_left : (a b : Bool) → a ≡ true → (a || b) ≡ true
either_left true b h = refl
either_left false b h = cc

pub either_right : (a b : Bool) → b ≡ true → (a || b) ≡ true
either_right true b h = refl
either_right false b h = h

pub either : (a b : Bool) → (a || b) ≡ true → (a ≡ true) ⊎ (b ≡ true)
either true b h = inl refl
either false b h = inr h

pub and_to : (a b c : Bool) → (b ≡ true → c ≡ true) → (a && b) ≡ true → (a && c) ≡ true
and_to true b c to h = to h
and_to false b c to h = h

pub or_to : (a b c : Bool) → (b ≡ true → c ≡ true) → (a || b) ≡ true → (a || c) ≡ true
or_to true b c to h = h
or_to false b c to h = to h

pub not_true : (a : Bool) → a ≡ false → not a ≡ true
not_true true h = cc
not_true false h = refl

pub not_false : (a : Bool) → not a ≡ true → a ≡ false
not_false true h = cc
not_false false h = refl

pub any_at : {X : Type 0} (test : X → Bool) (xs : List X) (k : ℕ) (x : X) → slice_get xs k ≡ Some x → test x ≡ true → list_any test xs ≡ true
any_at test [] k x h t = cc
any_at test (y ∷ xs) zero x h t = let e : y ≡ x = cc in either_left (test y) (list_any test xs) (ap test e ∙ t)
any_at test (y ∷ xs) (suc k) x h t = either_right (test y) (list_any test xs) (any_at test xs k x h t)

-- an item that passes
pub record Passes {X : Type 0} (test : X → Bool) (xs : List X) : Type 0 where
  pub place : ℕ
  pub item : X
  pub is : slice_get xs place ≡ Some item
  pub passes : test item ≡ true

pub at_any : {X : Type 0} (test : X → Bool) (xs : List X) → list_any test xs ≡ true → Passes test xs
at_any test [] h = cc
at_any test (x ∷ xs) h =
    elim (either (test x) (list_any test xs) h) [
      | inl t ↦ record { place = 0; item = x; is = refl; passes = t }
      | inr r ↦ (let g = at_any test xs r in record { place = suc g.place; item = g.item; is = g.is; passes = g.passes })
    ]

pub all_by : {X : Type 0} (test : X → Bool) (xs : List X) → ((k : ℕ) (x : X) → slice_get xs k ≡ Some x → test x ≡ true) → list_all test xs ≡ true
all_by test [] each = refl
all_by test (x ∷ xs) each = both (test x) (list_all test xs) (each 0 x refl) (all_by test xs (λ k y h. each (suc k) y h))

pub all_at : {X : Type 0} (test : X → Bool) (xs : List X) (k : ℕ) (x : X) → list_all test xs ≡ true → slice_get xs k ≡ Some x → test x ≡ true
all_at test [] k x h e = cc
all_at test (y ∷ xs) zero x h e = let s : y ≡ x = cc in ap test (sym s) ∙ (parts (test y) (list_all test xs) h).0
all_at test (y ∷ xs) (suc k) x h e = all_at test xs k x (parts (test y) (list_all test xs) h).1 e

pub map_same : {X Y : Type 0} (f g : X → Y) (xs : List X) → ((x : X) → f x ≡ g x) → map f xs ≡ map g xs
map_same f g [] same = refl
map_same f g (x ∷ xs) same = rw (same x) (ap (λ ys. g x ∷ ys) (map_same f g xs same))
