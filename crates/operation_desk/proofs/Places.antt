-- Places of lists.
use Rattle.std.proofs.Common.{◌≡◌, ℕ, zero, suc, ◌+◌, List, [], ◌∷◌, ◌++◌, take, Some, slice_get, ◌∙◌, ap, arith}

-- so many items and the next one
pub taken_next : {X : Type 0} (xs : List X) (k : ℕ) (x : X) → slice_get xs k ≡ Some x → take (k + 1) xs ≡ take k xs ++ x ∷ []
taken_next [] k x e = cc
taken_next (y ∷ xs) zero x e = let s : y ≡ x = cc in ap (λ z. z ∷ []) s
taken_next (y ∷ xs) (suc k) x e =
    let further : suc k + 1 ≡ suc (k + 1) = omega arith in
    ap (λ i. take i (y ∷ xs)) further ∙ ap (λ ys. y ∷ ys) (taken_next xs k x e)
