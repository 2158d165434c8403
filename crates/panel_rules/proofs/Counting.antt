-- How many items of a list pass a test, and what holds of each item.
use Rattle.std.proofs.Common.{◌≡◌, ℕ, zero, suc, ◌+◌, ◌≤◌, List, [], ◌∷◌, ◌++◌, Some, slice_get, Bool, true, false, if◌then◌else◌, ◌&&◌, refl, ◌∙◌, ap, subst, arith}
use Rattle.std.specs.Prelude.{filter}
use Rattle.std.specs.List.{AllByRecursion}

-- one where the test holds
abbrev pub one : Bool → ℕ
one b = if b then 1 else 0

abbrev pub count : {X : Type 0} → (X → Bool) → List X → ℕ
count test [] = 0
count test (x ∷ xs) = one (test x) + count test xs

pub count-append : {X : Type 0} (test : X → Bool) (xs ys : List X) → count test (xs ++ ys) ≡ count test xs + count test ys
count-append test [] ys = omega arith
count-append test (x ∷ xs) ys = let ih = count-append test xs ys in omega (arith, ih)

pub count-filter : {X : Type 0} (test among : X → Bool) (xs : List X) → count test (filter among xs) ≡ count (λ x. among x && test x) xs
count-filter test among [] = refl
count-filter test among (x ∷ xs) = go (among x) (count-filter test among xs)
  where
    go : (b : Bool) → count test (filter among xs) ≡ count (λ x. among x && test x) xs
        → count test (if b then x ∷ filter among xs else filter among xs) ≡ one (b && test x) + count (λ x. among x && test x) xs
    go true ih = omega (arith, ih)
    go false ih = omega (arith, ih)

-- two tests count together as a third one, item by item
pub count-sum : {X : Type 0} (first second sum : X → Bool) (xs : List X) → ((x : X) → one (first x) + one (second x) ≡ one (sum x))
    → count first xs + count second xs ≡ count sum xs
count-sum first second sum [] each = refl
count-sum first second sum (x ∷ xs) each = let ih = count-sum first second sum xs each in let here = each x in omega (arith, ih, here)

pub count-none : {X : Type 0} (test : X → Bool) (xs : List X) → AllByRecursion (λ x. test x ≡ false) xs → count test xs ≡ 0
count-none test [] all = refl
count-none test (x ∷ xs) all = let ih = count-none test xs all.1 in rw all.0 (omega (arith, ih))

pub count-some : {X : Type 0} (test : X → Bool) (xs : List X) (k : ℕ) (x : X) → slice_get xs k ≡ Some x → test x ≡ true → 1 ≤ count test xs
count-some test [] k x is t = cc
count-some test (y ∷ xs) zero x is t = let e : y ≡ x = cc in let here : test y ≡ true = ap test e ∙ t in rw here (omega arith)
count-some test (y ∷ xs) (suc k) x is t = let ih = count-some test xs k x is t in omega (arith, ih)

-- an item that is counted
pub record IsCounted {X : Type 0} (test : X → Bool) (xs : List X) : Type 0 where
  pub place : ℕ
  pub item : X
  pub is : slice_get xs place ≡ Some item
  pub passes : test item ≡ true

pub counted : {X : Type 0} (test : X → Bool) (xs : List X) → 1 ≤ count test xs → IsCounted test xs
counted test [] l = absurd (omega (arith, l))
counted test (x ∷ xs) l = go (test x) refl (counted test xs)
  where
    go : (b : Bool) → test x ≡ b → (1 ≤ count test xs → IsCounted test xs) → IsCounted test (x ∷ xs)
    go true e ih = record { place = 0; item = x; is = refl; passes = e }
    go false e ih = let g = ih (let h = l in let z = ap one e in omega (arith, h, z)) in
        record { place = suc g.place; item = g.item; is = g.is; passes = g.passes }

-- where at most one item passes, two places that pass are one
pub one_place : {X : Type 0} (test : X → Bool) (xs : List X) (i j : ℕ) (a b : X) → count test xs ≤ 1 → slice_get xs i ≡ Some a
    → slice_get xs j ≡ Some b → test a ≡ true → test b ≡ true → i ≡ j
one_place test [] i j a b few e f s t = cc
one_place test (x ∷ xs) zero zero a b few e f s t = refl
one_place test (x ∷ xs) zero (suc j) a b few e f s t =
    let same : x ≡ a = cc in
    let here : test x ≡ true = ap test same ∙ s in
    let more = count-some test xs j b f t in
    let z = ap one here in
    absurd (omega (arith, few, more, z))
one_place test (x ∷ xs) (suc i) zero a b few e f s t =
    let same : x ≡ b = cc in
    let here : test x ≡ true = ap test same ∙ t in
    let more = count-some test xs i a e s in
    let z = ap one here in
    absurd (omega (arith, few, more, z))
one_place test (x ∷ xs) (suc i) (suc j) a b few e f s t = let ih = one_place test xs i j a b (omega (arith, few)) e f s t in omega (arith, ih)

-- ---- what holds of each item

pub each_at : {X : Type 0} (P : X → Type 0) (xs : List X) (k : ℕ) (x : X) → AllByRecursion P xs → slice_get xs k ≡ Some x → P x
each_at P [] k x all is = cc
each_at P (y ∷ xs) zero x all is = let e : y ≡ x = cc in subst P e all.0
each_at P (y ∷ xs) (suc k) x all is = each_at P xs k x all.1 is

pub each_by : {X : Type 0} (P : X → Type 0) (xs : List X) → ((k : ℕ) (x : X) → slice_get xs k ≡ Some x → P x) → AllByRecursion P xs
each_by P [] at = tt
each_by P (x ∷ xs) at = (at 0 x refl, each_by P xs (λ k y h. at (suc k) y h))

pub each_to : {X : Type 0} (P Q : X → Type 0) (xs : List X) → ((x : X) → P x → Q x) → AllByRecursion P xs → AllByRecursion Q xs
each_to P Q [] to all = tt
each_to P Q (x ∷ xs) to all = (to x all.0, each_to P Q xs to all.1)

pub each_more : {X : Type 0} (P : X → Type 0) (xs : List X) (x : X) → AllByRecursion P xs → P x → AllByRecursion P (xs ++ x ∷ [])
each_more P [] x all here = (here, tt)
each_more P (y ∷ xs) x all here = (all.0, each_more P xs x all.1 here)

-- of the items that a filter lets through
pub each_filtered : {X : Type 0} (P : X → Type 0) (among : X → Bool) (xs : List X)
    → ((k : ℕ) (x : X) → slice_get xs k ≡ Some x → among x ≡ true → P x) → AllByRecursion P (filter among xs)
each_filtered P among [] at = tt
each_filtered P among (x ∷ xs) at = go (among x) refl (each_filtered P among xs (λ k y h t. at (suc k) y h t))
  where
    go : (b : Bool) → among x ≡ b → AllByRecursion P (filter among xs) → AllByRecursion P (if b then x ∷ filter among xs else filter among xs)
    go true e ih = (at 0 x refl e, ih)
    go false e ih = ih
