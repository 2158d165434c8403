-- Room for an answer more, as others are put before and behind it.
use Rattle.std.proofs.Common.{◌≡◌, ℕ, ◌+◌, ◌≤◌, ◌<◌, Bool, true, not, List, ◌∷◌, ◌++◌, length, take, drop, get_or}
use Rattle.std.proofs.Common.{refl, ◌∙◌, ap, arith, length-append}
use Rattle.std.specs.Prelude.{filter}
use Rattle.std.proofs.lemmas.List.{take-append-drop}
use Rattle.std.proofs.lemmas.List.Elements.{filter-append}
use Rattle.std.proofs.lemmas.List.Filters.{length-filter_both, length-filter_more}

front_short : {X : Type 0} (test : X → Bool) (n : ℕ) (xs : List X) → length (filter test (take n xs)) ≤ length (filter test xs)
front_short test n xs =
    let whole = ap (λ ys. length (filter test ys)) (take-append-drop n xs) in
    let split = ap length (filter-append test (take n xs) (drop n xs)) ∙ length-append (filter test (take n xs)) (filter test (drop n xs)) in
    omega (arith, whole, split)

module _ {X : Type 0} (test : X → Bool) (xs : List X) where
  pub room_before : (n most : ℕ) → length xs < most → length (filter test (take n xs)) < most
  room_before n most few =
      let one = front_short test n xs in
      let two = length-filter_both test (λ x. not (test x)) (λ x. refl) xs in
      omega (arith, one, two, few)

  pub room_within : (most : ℕ) → length xs < most → length (filter test xs) < most
  room_within most few = let two = length-filter_both test (λ x. not (test x)) (λ x. refl) xs in omega (arith, two, few)

  pub room_behind : (n most : ℕ) (x d : X) → length xs < most → n < length xs → not (test (get_or xs n d)) ≡ true
      → length (filter test xs ++ x ∷ filter (λ y. not (test y)) (take n xs)) < most
  room_behind n most x d few within passes =
      let split = length-append (filter test xs) (x ∷ filter (λ y. not (test y)) (take n xs)) in
      let two = length-filter_both test (λ y. not (test y)) (λ y. refl) xs in
      let more = length-filter_more (λ y. not (test y)) xs n d within in
      let one : length (filter (λ y. not (test y)) (take (n + 1) xs)) ≡ length (filter (λ y. not (test y)) (take n xs)) + 1 =
      more ∙ rw passes refl in
      let short = front_short (λ y. not (test y)) (n + 1) xs in
      omega (arith, split, two, one, short, few)
