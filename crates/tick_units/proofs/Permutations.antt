-- Two lists with the same seats, none of them twice, are one in another order.
use Rattle.std.proofs.Common.{◌≡◌, ◌<◌, ℕ, false, List, [], ◌∷◌, length, get_or, refl, sym, arith}
use Rattle.std.specs.List.{Contains, IsDistinct, remove}
use Rattle.std.specs.List.Sorted.{IsPermutation}
use Rattle.std.proofs.lemmas.List.Sorted.{IsPermutation-refl, IsPermutation-sym, IsPermutation-trans, IsPermutation-cons, IsPermutation-remove, Contains-permutation}
use Rattle.std.proofs.lemmas.List.Elements.{All-from_recursion, All-contains, Contains-append_right}
use Rattle.std.proofs.lemmas.Bool.{both_ways}
use Rattle.std.proofs.lemmas.Map.Keys.{IsDistinct-head, IsDistinct-tail, IsDistinct-IsPermutation}
use Rattle.std.proofs.lemmas.Map.Made.{Contains-tail}
use Rattle.tick_units.specs.declared.seat.Seat.{Seat}
use Rattle.tick_units.specs.Orders.{is_same_seat}
use Rattle.tick_units.proofs.Seats.{is_same_seat-Decides, is_same_seat-comm}

-- the first seat doesn't stand behind it
head_alone : (x : Seat) (xs : List Seat) (q : Seat) → IsDistinct is_same_seat (x ∷ xs) → Contains xs q → x ≡ q → ⊥
head_alone x xs q distinct there same =
    let apart : is_same_seat x q ≡ false =
    All-contains (λ y. is_same_seat x y ≡ false) xs q
    (All-from_recursion (λ y. is_same_seat x y ≡ false) xs (IsDistinct-head is_same_seat x xs distinct)) there
    in
    both_ways (is_same_seat x q) apart ((is_same_seat-Decides x q).1 same)

behind : (x : Seat) (xs : List Seat) (q : Seat) → Contains xs q → Contains (x ∷ xs) q
behind x xs q there = Contains-append_right (x ∷ []) xs q there

-- without the seat that the first list begins with, wherever it stands in the second
same_members-step : (x : Seat) (xs ys : List Seat) (k : ℕ) → k < length ys → get_or ys k x ≡ x → IsDistinct is_same_seat (x ∷ xs)
    → IsDistinct is_same_seat ys → ((q : Seat) → Contains (x ∷ xs) q → Contains ys q) → ((q : Seat) → Contains ys q → Contains (x ∷ xs) q)
    → ((zs : List Seat) → IsDistinct is_same_seat zs → ((q : Seat) → Contains xs q → Contains zs q) → ((q : Seat) → Contains zs q → Contains xs q)
    → IsPermutation xs zs) → IsPermutation (x ∷ xs) ys
same_members-step x xs ys k within is p q to from rest =
    let zs : List Seat = remove ys k in
    let there : IsPermutation ys (x ∷ zs) = IsPermutation-remove ys k x within (sym is) in
    let back : IsPermutation (x ∷ zs) ys = IsPermutation-sym ys (x ∷ zs) there in
    let apart : IsDistinct is_same_seat (x ∷ zs) = IsDistinct-IsPermutation is_same_seat is_same_seat-comm ys (x ∷ zs) there q in
    let inner : IsPermutation xs zs =
    rest zs (IsDistinct-tail is_same_seat x zs apart)
    (λ s h. Contains-tail x zs s (head_alone x xs s p h) (Contains-permutation ys (x ∷ zs) s there (to s (behind x xs s h))))
    (λ s h. Contains-tail x xs s (head_alone x zs s apart h) (from s (Contains-permutation (x ∷ zs) ys s back (behind x zs s h))))
    in
    IsPermutation-trans (x ∷ xs) (x ∷ zs) ys (IsPermutation-cons x xs zs inner) back

pub same_members : (xs ys : List Seat) → IsDistinct is_same_seat xs → IsDistinct is_same_seat ys → ((q : Seat) → Contains xs q → Contains ys q)
    → ((q : Seat) → Contains ys q → Contains xs q) → IsPermutation xs ys
same_members [] [] p q to from = IsPermutation-refl []
same_members [] (y ∷ ys) p q to from = let h = (from y (0, omega arith, refl)).1 in absurd (omega arith)
same_members (x ∷ xs) ys p q to from =
    let h = to x (0, omega arith, refl) in
    same_members-step x xs ys h.0 h.1 h.2 p q to from (λ zs. same_members xs zs (IsDistinct-tail is_same_seat x xs p))
