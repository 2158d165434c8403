-- Truth values, and tests over lists.
use Rattle.std.proofs.Common.{◌≡◌, ◌≤◌, ◌+◌, ◌==◌, ◌&&◌, ◌||◌, ℕ, zero, suc, Bool, true, false, List, [], ◌∷◌, Some, refl, sym, ap, ◌∙◌, arith, if◌then◌else◌}
use Rattle.std.specs.Prelude.{slice_get, nat_le, count_by}
use Rattle.std.specs.List.{list_all, list_any}
use Rattle.std.proofs.lemmas.Bool.Decides.{nat_tests}
use Rattle.std.proofs.lemmas.List.Sums.{sum_by-cons}
use Rattle.site_types.specs.declared.combine.Combine.{Combine}
use Rattle.site_types.specs.declared.combine.Combine.TheVariants.{All as AllOf, Any, AtLeast}
use Rattle.marker_table.specs.Equations.{is_met}
use Rattle.cause_effect.specs.Cycles.{is_among}

pub same_bool : (a b : Bool) → (a ≡ true → b ≡ true) → (b ≡ true → a ≡ true) → a ≡ b
same_bool true true f g = refl
same_bool false false f g = refl
same_bool true false f g = cc (f refl)
same_bool false true f g = cc (g refl)

pub and_first : (a b : Bool) → (a && b) ≡ true → a ≡ true
and_first true b h = refl
and_first false b h = cc

pub and_second : (a b : Bool) → (a && b) ≡ true → b ≡ true
and_second true b h = h
and_second false b h = cc

pub both : (a b : Bool) → a ≡ true → b ≡ true → (a && b) ≡ true
both true b p q = q
both false b p q = cc

pub or_left : (a b : Bool) → a ≡ true → (a || b) ≡ true
or_left true b h = refl
or_left false b h = cc

pub or_right : (a b : Bool) → b ≡ true → (a || b) ≡ true
or_right true b h = refl
or_right false b h = h

or_more : (a b c d : Bool) → (a ≡ true → c ≡ true) → (b ≡ true → d ≡ true) → (a || b) ≡ true → (c || d) ≡ true
or_more true b c d f g h = or_left c d (f refl)
or_more false b c d f g h = or_right c d (g h)

-- ---- a test that implies another

-- where the first test holds of an item of the list, the second does
abbrev pub ImpliesOn : {X : Type 0} → (X → Bool) → (X → Bool) → List X → Type 0
ImpliesOn {X} p q xs = (k : ℕ) (x : X) → slice_get xs k ≡ Some x → p x ≡ true → q x ≡ true

all_more : {X : Type 0} (p q : X → Bool) (xs : List X) → ImpliesOn p q xs → list_all p xs ≡ true → list_all q xs ≡ true
all_more p q [] more h = refl
all_more p q (x ∷ xs) more h =
    both (q x) (list_all q xs) (more 0 x refl (and_first (p x) (list_all p xs) h))
    (all_more p q xs (λ k y at. more (suc k) y at) (and_second (p x) (list_all p xs) h))

any_more : {X : Type 0} (p q : X → Bool) (xs : List X) → ImpliesOn p q xs → list_any p xs ≡ true → list_any q xs ≡ true
any_more p q [] more h = h
any_more p q (x ∷ xs) more h = or_more (p x) (list_any p xs) (q x) (list_any q xs) (more 0 x refl) (any_more p q xs (λ k y at. more (suc k) y at)) h

one_more : (x y : Bool) (m n : ℕ) → (x ≡ true → y ≡ true) → m ≤ n → (if x then 1 else 0) + m ≤ (if y then 1 else 0) + n
one_more true true m n h less = omega (arith, less)
one_more false true m n h less = omega (arith, less)
one_more false false m n h less = omega (arith, less)
one_more true false m n h less = cc (h refl)

count_more : {X : Type 0} (p q : X → Bool) (xs : List X) → ImpliesOn p q xs → count_by p xs ≤ count_by q xs
count_more p q [] more = omega arith
count_more p q (x ∷ xs) more =
    rw (sum_by-cons (λ y. if p y then 1 else 0) x xs, sum_by-cons (λ y. if q y then 1 else 0) x xs)
    (one_more (p x) (q x) (count_by p xs) (count_by q xs) (more 0 x refl) (count_more p q xs (λ k y at. more (suc k) y at)))

enough : (needed m n : ℕ) → m ≤ n → nat_le needed m ≡ true → nat_le needed n ≡ true
enough needed m n less h = grind (arith, nat_tests, less, h)

pub met_more : {X : Type 0} (combine : Combine) (p q : X → Bool) (xs : List X) → ImpliesOn p q xs → is_met combine p xs ≡ true
    → is_met combine q xs ≡ true
met_more AllOf p q xs more h = all_more p q xs more h
met_more Any p q xs more h = any_more p q xs more h
met_more (AtLeast needed) p q xs more h = enough needed (count_by p xs) (count_by q xs) (count_more p q xs more) h

-- tests that agree on a list
abbrev pub AgreeOn : {X : Type 0} → (X → Bool) → (X → Bool) → List X → Type 0
AgreeOn {X} p q xs = (k : ℕ) (x : X) → slice_get xs k ≡ Some x → p x ≡ q x

pub met_same : {X : Type 0} (combine : Combine) (p q : X → Bool) (xs : List X) → AgreeOn p q xs → is_met combine p xs ≡ is_met combine q xs
met_same combine p q xs same = same_bool (is_met combine p xs) (is_met combine q xs)
    (met_more combine p q xs (λ k x at h. sym (same k x at) ∙ h))
    (met_more combine q p xs (λ k x at h. same k x at ∙ h))

-- ---- an item of a list that passes a test

the_same : {X : Type 0} (x y : X) → Some x ≡ Some y → x ≡ y
the_same x y e = cc

pub any_at : {X : Type 0} (p : X → Bool) (xs : List X) (k : ℕ) (x : X) → slice_get xs k ≡ Some x → p x ≡ true → list_any p xs ≡ true
any_at p [] k x at h = cc
any_at p (y ∷ ys) zero x at h = or_left (p y) (list_any p ys) (ap p (the_same y x at) ∙ h)
any_at p (y ∷ ys) (suc k) x at h = or_right (p y) (list_any p ys) (any_at p ys k x at h)

-- an item that passes a test, and its place
pub record Passes {X : Type 0} (p : X → Bool) (xs : List X) : Type 0 where
  pub place : ℕ
  pub item : X
  pub at : slice_get xs place ≡ Some item
  pub passes : p item ≡ true

later : {X : Type 0} (p : X → Bool) (x : X) (xs : List X) → Passes p xs → Passes p (x ∷ xs)
later p x xs w = record { place = suc w.place; item = w.item; at = w.at; passes = w.passes }

passes_here : {X : Type 0} (p : X → Bool) (x : X) (xs : List X) (b : Bool) → p x ≡ b → (list_any p xs ≡ true → Passes p xs)
    → (b || list_any p xs) ≡ true → Passes p (x ∷ xs)
passes_here p x xs true e more h = record { place = 0; item = x; at = refl; passes = e }
passes_here p x xs false e more h = later p x xs (more h)

pub one_passes : {X : Type 0} (p : X → Bool) (xs : List X) → list_any p xs ≡ true → Passes p xs
one_passes p [] h = cc
one_passes p (x ∷ xs) h = passes_here p x xs (p x) refl (one_passes p xs) h

-- ---- numbers in lists

pub equal_number : (n : ℕ) → (n == n) ≡ true
equal_number n = grind (arith, nat_tests)

pub number_is : (m n : ℕ) → (m == n) ≡ true → m ≡ n
number_is m n h = grind (arith, nat_tests, h)

pub among_at : (xs : List ℕ) (k m : ℕ) → slice_get xs k ≡ Some m → is_among m xs ≡ true
among_at xs k m at = any_at (λ x. m == x) xs k m at (equal_number m)
