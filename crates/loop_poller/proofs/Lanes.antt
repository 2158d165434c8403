-- Answers put into a lane one after another.
use Rattle.std.proofs.Common.{◌≡◌, ℕ, ◌+◌, ◌≤◌, List, [], ◌∷◌, ◌++◌, length, Option, Some, None, refl, sym, ◌∙◌, ap, arith, append_assoc, append-nil, length-append}
use Rattle.std.specs.List.{filter_map, flat_map, range_with_len}
use Rattle.std.proofs.lemmas.List.Concat.{flat_map-append}
use Rattle.std.proofs.lemmas.List.Elements.{filter_map-append}
use Rattle.loop_poller.proofs.Windows.{range-more}
use Rattle.tick_units.specs.Lane.{LaneState, HasRoom, with_put}

-- a lane got at most so many items
pub record GotFew {X : Type 0} (before now : LaneState X) (n : ℕ) : Type 0 where
  pub items : length now.items ≤ length before.items + n
  pub put : now.put ≤ before.put + n
  pub capacity : now.capacity ≡ before.capacity

pub none_got : {X : Type 0} (l : LaneState X) → GotFew l l 0
none_got l = record { items = omega arith; put = omega arith; capacity = refl }

pub got_more : {X : Type 0} (first l new : LaneState X) (x : X) (n : ℕ) → GotFew first l n → new ≡ with_put l (x ∷ []) → GotFew first new (n + 1)
got_more first l new x n few e =
    let items : length new.items ≡ length l.items + 1 = ap (λ k. length k.items) e ∙ length-append l.items (x ∷ []) in
    let put : new.put ≡ l.put + 1 = ap (λ k. k.put) e in
    let capacity : new.capacity ≡ l.capacity = ap (λ k. k.capacity) e in
    record { items = omega (arith, few.items); put = omega (arith, few.put); capacity = capacity ∙ few.capacity }

pub got_same : {X : Type 0} (first l new : LaneState X) (n : ℕ) → GotFew first l n → new ≡ l → GotFew first new (n + 1)
got_same first l new n few e =
    let items : length new.items ≡ length l.items = ap (λ k. length k.items) e in
    let put : new.put ≡ l.put = ap (λ k. k.put) e in
    let capacity : new.capacity ≡ l.capacity = ap (λ k. k.capacity) e in
    record { items = omega (arith, few.items); put = omega (arith, few.put); capacity = capacity ∙ few.capacity }

pub room_left : {X : Type 0} (first now : LaneState X) (n m : ℕ) → GotFew first now n → HasRoom first (m + n) → HasRoom now m
room_left first now n m few room = let capacity = few.capacity in (omega (arith, room.0, few.items), omega (arith, room.1, few.put))

pub put-put : {X : Type 0} (l : LaneState X) (xs ys : List X) → with_put (with_put l xs) ys ≡ with_put l (xs ++ ys)
put-put l xs ys =
    let items = append_assoc l.items xs ys in
    let put = length-append xs ys in
    let count : (l.put + length xs) + length ys ≡ l.put + length (xs ++ ys) = omega arith in
    rw (items, count) refl

pub put-nil : {X : Type 0} (l : LaneState X) → with_put l [] ≡ l
put-nil l =
    rw (append-nil l.items) (ap (λ n. record { items = l.items; put = n; taken = l.taken; quota = l.quota; capacity = l.capacity }) (omega arith))

module _ {X : Type 0} (f : ℕ → Option X) (place : ℕ) (places : List ℕ) (l new first : LaneState X) (e : l ≡ with_put first (filter_map f places))
  where
    pub put_some : (x : X) → f place ≡ Some x → new ≡ with_put l (x ∷ []) → new ≡ with_put first (filter_map f (places ++ place ∷ []))
    put_some x is put =
        rw (filter_map-append f places (place ∷ []))
        (rw is (put ∙ ap (λ k. with_put k (x ∷ [])) e ∙ put-put first (filter_map f places) (x ∷ [])))

    pub put_none : f place ≡ None → new ≡ l → new ≡ with_put first (filter_map f (places ++ place ∷ []))
    put_none is same =
        rw (filter_map-append f places (place ∷ []))
        (rw is (same ∙ e ∙ ap (with_put first) (sym (append-nil (filter_map f places)))))

-- the items of one loop more
pub put_line : {X : Type 0} (f : ℕ → List X) (k : ℕ) (first l new : LaneState X) → l ≡ with_put first (flat_map f (range_with_len 1 k))
    → new ≡ with_put l (f (k + 1)) → new ≡ with_put first (flat_map f (range_with_len 1 (k + 1)))
put_line f k first l new e put =
    let next : 1 + k ≡ k + 1 = omega arith in
    let all : flat_map f (range_with_len 1 (k + 1)) ≡ flat_map f (range_with_len 1 k) ++ f (k + 1) =
    ap (flat_map f) (range-more 1 k)
    ∙ flat_map-append f (range_with_len 1 k) ((1 + k) ∷ [])
    ∙ ap (λ xs. flat_map f (range_with_len 1 k) ++ xs) (append-nil (f (1 + k)) ∙ ap f next) in
    put ∙ ap (λ k2. with_put k2 (f (k + 1))) e ∙ put-put first (flat_map f (range_with_len 1 k)) (f (k + 1)) ∙ ap (with_put first) (sym all)
