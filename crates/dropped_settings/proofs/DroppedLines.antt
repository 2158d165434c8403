-- The lines of those of a list that are dropped, one more at a time.
use Rattle.std.proofs.Common.{◌≡◌, ◌<◌, ◌+◌, ℕ, Bool, true, false, List, [], ◌∷◌, ◌++◌, length, get_or, take, refl, sym, ap, ◌∙◌, subst, append_assoc, append-nil, arith, if◌then◌else◌}
use Rattle.std.specs.List.{filter, flat_map, range_with_len}
use Rattle.std.proofs.lemmas.List.{map-id}
use Rattle.std.proofs.lemmas.List.Concat.{flat_map-append}
use Rattle.std.proofs.lemmas.List.Elements.{filter-append, filter_more}
use Rattle.std.proofs.lemmas.List.FromFn.{map-range_with_len_more}
use Rattle.dropped_settings.specs.Dropped.{lines_of}

-- the line of a single one
line_of_one : {X : Type 0} (line : X → List ℕ) (x : X) (b : Bool) → flat_map line (if b then x ∷ [] else []) ≡ (if b then line x else [])
line_of_one line x true = append-nil (line x)
line_of_one line x false = refl

-- what is behind the first lines
pub lines_next : {X : Type 0} (line : X → List ℕ) (test : X → Bool) (ys xs : List X) (k : ℕ) (x : X) → ys ≡ xs → k < length ys → x ≡ get_or ys k x
    → lines_of line test (take (k + 1) xs) ≡ lines_of line test (take k xs) ++ (if test x then line x else [])
lines_next {X = X} line test ys xs k x e small is =
    ap (flat_map line) (filter_more test xs k x (subst (λ (zs : List X). k < length zs) e small))
    ∙ flat_map-append line (filter test (take k xs)) (if test (get_or xs k x) then get_or xs k x ∷ [] else [])
    ∙ ap (λ rest. lines_of line test (take k xs) ++ rest)
    (line_of_one line (get_or xs k x) (test (get_or xs k x)) ∙ ap (λ (y : X). if test y then line y else []) (sym there))
  where
    there : x ≡ get_or xs k x
    there = is ∙ ap (λ (zs : List X). get_or zs k x) e

-- a text with the lines of the first ones grows by that of the next one
pub text_next : {X : Type 0} (line : X → List ℕ) (test : X → Bool) (ys xs : List X) (k : ℕ) (x : X) (first was now : List ℕ) → ys ≡ xs → k < length ys
    → x ≡ get_or ys k x → was ≡ first ++ lines_of line test (take k xs) → now ≡ was ++ (if test x then line x else [])
    → now ≡ first ++ lines_of line test (take (k + 1) xs)
text_next line test ys xs k x first was now e small is before step =
    step
    ∙ ap (λ text. text ++ (if test x then line x else [])) before
    ∙ append_assoc first (lines_of line test (take k xs)) (if test x then line x else [])
    ∙ ap (λ rest. first ++ rest) (sym (lines_next line test ys xs k x e small is))

-- the same by panel
pub text_next_panel : (line : ℕ → List ℕ) (test : ℕ → Bool) (k : ℕ) (first was now : List ℕ)
    → was ≡ first ++ lines_of line test (range_with_len 1 k) → now ≡ was ++ (if test (k + 1) then line (k + 1) else [])
    → now ≡ first ++ lines_of line test (range_with_len 1 (k + 1))
text_next_panel line test k first was now before step =
    step
    ∙ ap (λ text. text ++ (if test (k + 1) then line (k + 1) else [])) before
    ∙ append_assoc first (lines_of line test (range_with_len 1 k)) (if test (k + 1) then line (k + 1) else [])
    ∙ ap (λ rest. first ++ rest) (sym next)
  where
    there : range_with_len 1 (k + 1) ≡ range_with_len 1 k ++ (k + 1) ∷ []
    there = sym (map-id (range_with_len 1 (k + 1))) ∙ map-range_with_len_more (λ (n : ℕ). n) 1 k (k + 1) (omega arith)
        ∙ ap (λ ns. ns ++ (k + 1) ∷ []) (map-id (range_with_len 1 k))

    next : lines_of line test (range_with_len 1 (k + 1)) ≡ lines_of line test (range_with_len 1 k) ++ (if test (k + 1) then line (k + 1) else [])
    next =
        ap (lines_of line test) there
        ∙ ap (flat_map line) (filter-append test (range_with_len 1 k) ((k + 1) ∷ []))
        ∙ flat_map-append line (filter test (range_with_len 1 k)) (filter test ((k + 1) ∷ []))
        ∙ ap (λ rest. lines_of line test (range_with_len 1 k) ++ rest) (line_of_one line (k + 1) (test (k + 1)))
