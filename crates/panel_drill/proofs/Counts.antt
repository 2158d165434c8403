-- One thing more is counted.
use Rattle.std.proofs.Common.{◌≡◌, ◌∙◌, ◌+◌, ◌<◌, ◌≤◌, ℕ, Bool, true, false, List, [], ◌∷◌, Some, ap, arith, get_or, length, sym, take, if◌then◌else◌}
use Rattle.std.specs.Prelude.{map, slice_get, sum}
use Rattle.std.specs.List.{count_by, range_with_len}
use Rattle.std.proofs.lemmas.List.FromFn.{map-range_with_len_more}
use Rattle.std.proofs.lemmas.List.Sums.{count_by_more_no, count_by_more_yes, fold-append}
use Rattle.std.proofs.lemmas.Option.{slice_get-get_or}

abbrev pub counted : Bool → ℕ → ℕ
counted here n = if here then n + 1 else n

some_is : {X : Type 0} (a b : X) → Some a ≡ Some b → a ≡ b
some_is a b e = cc

pub count_more : {X : Type 0} (test : X → Bool) (xs : List X) (k : ℕ) (x : X) (here : Bool) (old new : ℕ) → k < length xs
    → slice_get xs k ≡ Some x → test x ≡ here → old ≡ count_by test (take k xs) → new ≡ counted here old
    → new ≡ count_by test (take (k + 1) xs)
count_more {X} test xs k x here old new within at tested was now = go here tested now
  where
    is : get_or xs k x ≡ x
    is = some_is _ _ (sym (slice_get-get_or xs k x within) ∙ at)

    go : (b : Bool) → test x ≡ b → new ≡ counted b old → new ≡ count_by test (take (k + 1) xs)
    go true holds now = now ∙ ap (λ n. n + 1) was ∙ sym (count_by_more_yes test xs k x within (ap test is ∙ holds))
    go false fails now = now ∙ was ∙ sym (count_by_more_no test xs k x within (ap test is ∙ fails))

pub few_more : (here : Bool) (old new k : ℕ) → old ≤ k → new ≡ counted here old → new ≤ k + 1
few_more true old new k few now = omega (arith, few, now)
few_more false old new k few now = omega (arith, few, now)

-- one number more is added
pub sum_more : (f : ℕ → ℕ) (k old item : ℕ) → old ≡ sum (map f (range_with_len 1 k)) → item ≡ f (k + 1)
    → old + item ≡ sum (map f (range_with_len 1 (k + 1)))
sum_more f k old item was is =
    ap (λ n. n + item) was
    ∙ ap (λ n. sum (map f (range_with_len 1 k)) + n) is
    ∙ sym (ap sum (map-range_with_len_more f 1 k (k + 1) (omega arith)) ∙ fold-append ◌+◌ 0 (map f (range_with_len 1 k)) (f (k + 1) ∷ []))
