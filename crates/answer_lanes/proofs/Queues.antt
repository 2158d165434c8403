-- The runs that wait in a queue, by where they lie in its room.
use Rattle.std.proofs.Common.{◌≡◌, ◌≤◌, ◌<◌, ◌+◌, ◌-◌, ℕ, List, ◌∷◌, length, length-drop, take, drop, set, suc, sym, ap, ◌∙◌, arith}
use Rattle.std.specs.List.{copy_within}
use Rattle.std.proofs.lemmas.List.{drop-drop, drop-set, drop-take, length-take}
use Rattle.std.proofs.lemmas.List.Edits.{take-paste}

module _ {X : Type 0} (begin end : ℕ) (xs : List X) where
  -- those from one place up to another, cut off behind or in front first
  pub cut_either_way : begin ≤ end → take (end - begin) (drop begin xs) ≡ drop begin (take end xs)
  cut_either_way order =
      let sum : begin + (end - begin) ≡ end = omega (arith, order) in
      sym (drop-take begin (end - begin) xs) ∙ ap (λ n. drop begin (take n xs)) sum

  -- they are moved to the front
  pub closed_up : begin ≤ end → end ≤ length xs → (ys : List X) → ys ≡ copy_within xs begin end 0
      → take (end - begin) ys ≡ drop begin (take end xs)
  closed_up order within ys is =
      let size = length-drop begin xs in
      let none : 0 + (end - begin) ≡ end - begin = omega arith in
      ap (take (end - begin)) is
      ∙ sym (ap (λ n. take n (copy_within xs begin end 0)) none)
      ∙ take-paste xs 0 (drop begin xs) (end - begin) (omega arith) (omega (arith, size, within))
      ∙ cut_either_way order

  -- where some are there, the places differ
  pub some_wait : 0 < length (drop begin (take end xs)) → begin < end
  some_wait some =
      let rest = length-drop begin (take end xs) in
      let most = length-take end xs in
      omega (arith, some, rest, most)

  -- another one stands in place of the first
  pub first_set : begin < end → end ≤ length xs → (x : X) → drop begin (take end (set xs begin x)) ≡ x ∷ drop 1 (drop begin (take end xs))
  first_set some within x =
      let order : begin ≤ end = omega (arith, some) in
      let behind : begin + 1 ≤ end = omega (arith, some) in
      let count : end - begin ≡ suc (end - (begin + 1)) = omega (arith, some) in
      let all : (begin + 1) + (end - (begin + 1)) ≡ end = omega (arith, some) in
      sym (cut (set xs begin x) order)
      ∙ ap (take (end - begin)) (drop-set xs begin x (omega (arith, some, within)))
      ∙ ap (λ n. take n (x ∷ drop (begin + 1) xs)) count
      ∙ ap (λ ys. x ∷ ys) (sym (drop-take (begin + 1) (end - (begin + 1)) xs) ∙ ap (λ n. drop (begin + 1) (take n xs)) all ∙ sym (drop-drop 1 begin (take end xs)))
    where
      cut : (ys : List X) → begin ≤ end → take (end - begin) (drop begin ys) ≡ drop begin (take end ys)
      cut ys order =
          let sum : begin + (end - begin) ≡ end = omega (arith, order) in
          sym (drop-take begin (end - begin) ys) ∙ ap (λ n. drop begin (take n ys)) sum
