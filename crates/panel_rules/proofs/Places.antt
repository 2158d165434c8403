-- Items of lists by their places.
use Rattle.std.proofs.Common.{◌≡◌, ℕ, zero, suc, ◌+◌, ◌<◌, List, [], ◌∷◌, ◌++◌, length, take, Option, Some, None, slice_get, ◌⊎◌, inl, inr, refl, ◌∙◌, ap, arith, add-zero, add-suc}
use Rattle.std.specs.List.{filter_map, range_with_len, cons_option}

pub get_front : {X : Type 0} (xs ys : List X) (k : ℕ) (x : X) → slice_get xs k ≡ Some x → slice_get (xs ++ ys) k ≡ Some x
get_front [] ys k x h = cc
get_front (y ∷ xs) ys zero x h = h
get_front (y ∷ xs) ys (suc k) x h = get_front xs ys k x h

pub get_behind : {X : Type 0} (xs ys : List X) (k : ℕ) → slice_get (xs ++ ys) (k + length xs) ≡ slice_get ys k
get_behind [] ys k = rw (add-zero k) refl
get_behind (x ∷ xs) ys k = rw (add-suc k (length xs)) (get_behind xs ys k)

-- an item of two lists one behind the other is of the first, or of the second
pub record IsBehind {X : Type 0} (count : ℕ) (ys : List X) (k : ℕ) (x : X) : Type 0 where
  pub place : ℕ
  pub far : k ≡ place + count
  pub is : slice_get ys place ≡ Some x

pub get_either : {X : Type 0} (xs ys : List X) (k : ℕ) (x : X) → slice_get (xs ++ ys) k ≡ Some x
    → (slice_get xs k ≡ Some x) ⊎ IsBehind (length xs) ys k x
get_either [] ys k x h = inr (record { place = k; far = omega arith; is = h })
get_either (y ∷ xs) ys zero x h = inl h
get_either (y ∷ xs) ys (suc k) x h =
    elim (get_either xs ys k x h) [
      | inl g ↦ inl g
      | inr g ↦ inr (record { place = g.place; far = omega (arith, g.far); is = g.is })
    ]

pub get_in_front : {X : Type 0} (xs ys : List X) (k : ℕ) (x : X) → k < length xs → slice_get (xs ++ ys) k ≡ Some x → slice_get xs k ≡ Some x
get_in_front xs ys k x l h =
    elim (get_either xs ys k x h) [
      | inl g ↦ g
      | inr g ↦ absurd (omega (arith, g.far, l))
    ]

pub get_take : {X : Type 0} (n : ℕ) (xs : List X) (k : ℕ) (x : X) → k < n → slice_get xs k ≡ Some x → slice_get (take n xs) k ≡ Some x
get_take n [] k x l h = cc
get_take zero (y ∷ xs) k x l h = absurd (omega arith)
get_take (suc n) (y ∷ xs) zero x l h = h
get_take (suc n) (y ∷ xs) (suc k) x l h = get_take n xs k x (omega arith) h

pub take_get : {X : Type 0} (n : ℕ) (xs : List X) (k : ℕ) (x : X) → slice_get (take n xs) k ≡ Some x → (k < n) × (slice_get xs k ≡ Some x)
take_get zero [] k x h = cc
take_get (suc n) [] k x h = cc
take_get zero (y ∷ xs) k x h = cc
take_get (suc n) (y ∷ xs) zero x h = (omega arith, h)
take_get (suc n) (y ∷ xs) (suc k) x h = let g = take_get n xs k x h in (omega (arith, g.0), g.1)

-- what a filter lets through came from an item
pub record ComesFrom {X Y : Type 0} (f : X → Option Y) (xs : List X) (y : Y) : Type 0 where
  pub source : X
  pub place : ℕ
  pub is : slice_get xs place ≡ Some source
  pub gives : f source ≡ Some y

cons_either : {X : Type 0} (o : Option X) (xs : List X) (k : ℕ) (x : X) → slice_get (cons_option o xs) k ≡ Some x
    → (o ≡ Some x) ⊎ ((j : ℕ) × (slice_get xs j ≡ Some x))
cons_either None xs k x h = inr (k, h)
cons_either (Some y) xs zero x h = inl h
cons_either (Some y) xs (suc k) x h = inr (k, h)

pub found_from : {X Y : Type 0} (f : X → Option Y) (xs : List X) (k : ℕ) (y : Y) → slice_get (filter_map f xs) k ≡ Some y → ComesFrom f xs y
found_from f [] k y h = cc
found_from f (x ∷ xs) k y h =
    elim (cons_either (f x) (filter_map f xs) k y h) [
      | inl e ↦ record { source = x; place = 0; is = refl; gives = e }
      | inr e ↦
          (let g = found_from f xs e.0 y e.1 in record {
            source = g.source;
            place = g.place + 1;
            is = rw (add-suc g.place 0, add-zero) g.is;
            gives =
                g.gives;
          })
    ]

pub record IsFound {Y : Type 0} (ys : List Y) (y : Y) : Type 0 where
  pub place : ℕ
  pub is : slice_get ys place ≡ Some y

cons_here : {X : Type 0} (o : Option X) (xs : List X) (x : X) → o ≡ Some x → IsFound (cons_option o xs) x
cons_here None xs x h = cc
cons_here (Some y) xs x h = record { place = 0; is = h }

cons_later : {X : Type 0} (o : Option X) (xs : List X) (x : X) → IsFound xs x → IsFound (cons_option o xs) x
cons_later None xs x h = h
cons_later (Some y) xs x h = record { place = suc h.place; is = h.is }

pub found_in : {X Y : Type 0} (f : X → Option Y) (xs : List X) (k : ℕ) (x : X) (y : Y) → slice_get xs k ≡ Some x → f x ≡ Some y
    → IsFound (filter_map f xs) y
found_in f [] k x y h e = cc
found_in f (z ∷ xs) zero x y h e = cons_here (f z) (filter_map f xs) y (cc)
found_in f (z ∷ xs) (suc k) x y h e = cons_later (f z) (filter_map f xs) y (found_in f xs k x y h e)

pub range_get : (a n k : ℕ) → k < n → slice_get (range_with_len a n) k ≡ Some (a + k)
range_get a zero k l = absurd (omega arith)
range_get a (suc n) zero l = ap Some (omega arith)
range_get a (suc n) (suc k) l = range_get (a + 1) n k (omega arith) ∙ ap Some (omega arith)

pub range_got : (a n k x : ℕ) → slice_get (range_with_len a n) k ≡ Some x → (k < n) × (x ≡ a + k)
range_got a zero k x h = cc
range_got a (suc n) zero x h = let e : a ≡ x = cc in (omega arith, omega arith)
range_got a (suc n) (suc k) x h = let g = range_got (a + 1) n k x h in (omega (arith, g.0), omega (arith, g.1))
