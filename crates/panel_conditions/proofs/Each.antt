-- A loop that does the same to each item of a list, and one that fills flags.
use Rattle.std.proofs.Common.{◌≡◌, ℕ, zero, suc, ◌+◌, ◌<◌, List, [], ◌∷◌, ◌++◌, length, map, take, drop, set, get_or, refl, sym, ap, arith, add-one, ◌∙◌, ◌≤◌}
use Rattle.std.proofs.lemmas.List.{take_all, drop_all, append-nil}

each_step : {X : Type 0} (f : X → X) (xs : List X) (i : ℕ) (d : X) → i < length xs →
    set (map f (take i xs) ++ drop i xs) i (f (get_or (map f (take i xs) ++ drop i xs) i d)) ≡ map f (take (suc i) xs) ++ drop (suc i) xs
each_step f [] i d h = absurd (omega (arith, h))
each_step f (x ∷ xs) zero d h = refl
each_step f (x ∷ xs) (suc i) d h = ap (λ l. f x ∷ l) (each_step f xs i d (omega (arith, h)))

-- one more item was changed
pub each_more : {X : Type 0} (f : X → X) (xs now : List X) (i : ℕ) (d : X) → i < length xs → now ≡ map f (take i xs) ++ drop i xs →
    set now i (f (get_or now i d)) ≡ map f (take (i + 1) xs) ++ drop (i + 1) xs
each_more f xs now i d h e =
    ap (λ l. set l i (f (get_or l i d))) e ∙ each_step f xs i d h ∙ ap (λ n. map f (take n xs) ++ drop n xs) (sym (add-one i))

-- each item was changed
pub each_all : {X : Type 0} (f : X → X) (xs now : List X) (i : ℕ) → length xs ≤ i → now ≡ map f (take i xs) ++ drop i xs → now ≡ map f xs
each_all f xs now i h e =
    e ∙ ap (λ l. map f l ++ drop i xs) (take_all i xs h) ∙ ap (λ l. map f xs ++ l) (drop_all i xs h) ∙ append-nil (map f xs)
