-- One marker more is solved.
use Rattle.std.proofs.Common.{◌≡◌, ◌≢◌, ◌≤◌, ◌<◌, ◌==◌, ◌+◌, ◌&&◌, ◌||◌, inl, inr, ℕ, zero, suc, Bool, true, false, List, [], ◌∷◌, length, take, get_or, replicate, refl, sym, ap, subst, ◌∙◌}
use Rattle.std.specs.Prelude.{slice_index_or}
use Rattle.std.proofs.lemmas.Bool.Decides.{eqb_tells}
use Rattle.std.proofs.lemmas.List.{take_all, take_more}
use Rattle.std.proofs.lemmas.List.Folds.{list_any-append}
use Rattle.std.proofs.lemmas.Bool.{cases_lt}
use Rattle.std.proofs.lemmas.Option.{slice_get-get_or, slice_get_past}
use Rattle.site_types.specs.declared.site.Site.{Site}
use Rattle.marker_table.specs.declared.facts.Facts.{Facts}
use Rattle.marker_table.specs.Equations.{makes_true, equation}
use Rattle.cause_effect.specs.Cycles.{is_among, HasNoCycle}
use Rattle.cause_effect.specs.Orders.{IsOrder}
use Rattle.cause_effect.specs.Solutions.{IsSolution}
use Rattle.cause_effect.proofs.Depths.{the_values, the_values_solve}
use Rattle.cause_effect.proofs.Equations.{equation_same}
use Rattle.cause_effect.proofs.Orders.{order_is_free}

pub none_true : (n m : ℕ) → slice_index_or (replicate n false) m false ≡ false
none_true zero m = refl
none_true (suc n) zero = refl
none_true (suc n) (suc m) = none_true n m

-- one item more of a front
pub among_more : (m k : ℕ) (xs : List ℕ) → k < length xs → is_among m (take (k + 1) xs) ≡ (is_among m (take k xs) || ((m == get_or xs k 0) || false))
among_more m k xs less = ap (is_among m) (take_more xs k 0 less) ∙ list_any-append (λ x. m == x) (take k xs) (get_or xs k 0 ∷ [])

or_true : (a b : Bool) → b ≡ true → (a || (b || false)) ≡ true
or_true true b e = refl
or_true false true e = refl
or_true false false e = e

or_none : (a b : Bool) → b ≡ false → (a || (b || false)) ≡ a
or_none true b e = refl
or_none false true e = e
or_none false false e = refl

pub among_last : (m k : ℕ) (xs : List ℕ) → k < length xs → (m == get_or xs k 0) ≡ true → is_among m (take (k + 1) xs) ≡ true
among_last m k xs less same = among_more m k xs less ∙ or_true (is_among m (take k xs)) (m == get_or xs k 0) same

pub among_before : (m k : ℕ) (xs : List ℕ) → k < length xs → (m == get_or xs k 0) ≡ false → is_among m (take (k + 1) xs) ≡ is_among m (take k xs)
among_before m k xs less apart = among_more m k xs less ∙ or_none (is_among m (take k xs)) (m == get_or xs k 0) apart

-- ---- values

-- the values of the first k markers of the order are those of the solution, the others are false
abbrev pub AreSolved : Site → Facts → List ℕ → ℕ → (ℕ → Bool) → Type 0
AreSolved site facts order k v = (m : ℕ) → v m ≡ (is_among m (take k order) && the_values site facts m)

-- one marker has a value in some values, and the others have those that they have in others
pub record Puts (x : ℕ) (value : Bool) (v more : ℕ → Bool) : Type 0 where
  pub this : more x ≡ value
  pub others : (m : ℕ) → m ≢ x → more m ≡ v m

and_is : (a b : Bool) → a ≡ true → (a && b) ≡ b
and_is true b e = refl
and_is false b e = cc

-- what the next marker's terms make of it is its value in the solution
pub next_value : (site : Site) (facts : Facts) (order : List ℕ) (k : ℕ) (v : ℕ → Bool) → IsOrder site order → k < length order →
    ((m : ℕ) → is_among m (take k order) ≡ true → v m ≡ the_values site facts m) →
    equation site facts v (get_or order k 0) ≡ the_values site facts (get_or order k 0)
next_value site facts order k v is less known =
    equation_same site facts v (the_values site facts) (get_or order k 0)
    (λ other term. known other (is.rising k (get_or order k 0) other (slice_get-get_or order k 0 less) term)) ∙
    sym (the_values_solve site facts (order_is_free site order is) (get_or order k 0))

solved_here : (site : Site) (facts : Facts) (order : List ℕ) (v more : ℕ → Bool) (k : ℕ) (value : Bool) (m : ℕ) → k < length order
    → Puts (get_or order k 0) value v more →
    value ≡ the_values site facts (get_or order k 0) → m ≡ get_or order k 0 → (m == get_or order k 0) ≡ true →
    more m ≡ (is_among m (take (k + 1) order) && the_values site facts m)
solved_here site facts order v more k value m less puts right same test =
    ap more same ∙
    (puts.this ∙
    (right ∙
    (sym (ap (the_values site facts) same) ∙ sym
    (and_is (is_among m (take (k + 1) order)) (the_values site facts m) (among_last m k order less test)))))

solved_there : (site : Site) (facts : Facts) (order : List ℕ) (v more : ℕ → Bool) (k : ℕ) (value : Bool) (m : ℕ) → k < length order
    → Puts (get_or order k 0) value v more →
    v m ≡ (is_among m (take k order) && the_values site facts m) → m ≢ get_or order k 0 → (m == get_or order k 0) ≡ false →
    more m ≡ (is_among m (take (k + 1) order) && the_values site facts m)
solved_there site facts order v more k value m less puts known apart test =
    puts.others m apart ∙ (known ∙ ap (λ b. b && the_values site facts m) (sym (among_before m k order less test)))

pub solved_next : (site : Site) (facts : Facts) (order : List ℕ) (v more : ℕ → Bool) (k : ℕ) (value : Bool) → IsOrder site order → k < length order →
    Puts (get_or order k 0) value v more → AreSolved site facts order k v → value ≡ equation site facts v (get_or order k 0) →
    AreSolved site facts order (k + 1) more
solved_next site facts order v more k value is less puts known made m =
    let x = get_or order k 0 in
    let right : value ≡ the_values site facts x =
    made ∙ next_value site facts order k v is less
    (λ other among. known other ∙ and_is (is_among other (take k order)) (the_values site facts other) among) in
    elim (eqb_tells m x) [
      | inl same ↦ solved_here site facts order v more k value m less puts right same.1 same.0
      | inr apart ↦ solved_there site facts order v more k value m less puts (known m) apart.1 apart.0
    ]

-- the same, where the list that is gone over is the order
pub solved_on : (site : Site) (facts : Facts) (order xs : List ℕ) (v more : ℕ → Bool) (k : ℕ) (value : Bool) → xs ≡ order → IsOrder site order
    → k < length xs → Puts (get_or xs k 0) value v more → AreSolved site facts order k v → value ≡ equation site facts v (get_or xs k 0) →
    AreSolved site facts order (k + 1) more
solved_on site facts order xs v more k value e is less puts known made =
    let same : get_or xs k 0 ≡ get_or order k 0 = ap (λ ys. get_or ys k 0) e in
    solved_next site facts order v more k value is (subst (λ ys. k < length ys) e less) (subst (λ x. Puts x value v more) same puts) known
    (made ∙ ap (equation site facts v) same)

-- a place without a marker is false
pub no_marker : (site : Site) (facts : Facts) (v : ℕ → Bool) (m : ℕ) → length site.markers ≤ m → equation site facts v m ≡ false
no_marker site facts v m past = ap (makes_true site facts v) (slice_get_past site.markers m past)

among_all : (site : Site) (facts : Facts) (order : List ℕ) → IsOrder site order → (m : ℕ)
    → (is_among m order && the_values site facts m) ≡ the_values site facts m
among_all site facts order is m = elim (cases_lt m (length site.markers)) [
  | inl within ↦ and_is (is_among m order) (the_values site facts m) (is.whole m within)
  | inr past ↦
      and_false (is_among m order) (the_values site facts m)
      (the_values_solve site facts (order_is_free site order is) m ∙ no_marker site facts (the_values site facts) m past)
]
  where
    and_false : (a b : Bool) → b ≡ false → (a && b) ≡ b
    and_false true b e = refl
    and_false false b e = sym e

-- values that are those of the solution are a solution
pub is_solution : (site : Site) (facts : Facts) (v : ℕ → Bool) → HasNoCycle site → ((m : ℕ) → v m ≡ the_values site facts m) → IsSolution site facts v
is_solution site facts v free same m =
    same m ∙ (the_values_solve site facts free m ∙ equation_same site facts (the_values site facts) v m (λ other term. sym (same other)))

pub all_solved : (site : Site) (facts : Facts) (order : List ℕ) (k : ℕ) (v : ℕ → Bool) → IsOrder site order → length order ≤ k
    → AreSolved site facts order k v →
    IsSolution site facts v
all_solved site facts order k v is done known =
    is_solution site facts v (order_is_free site order is)
    (λ m. known m ∙ (ap (λ xs. is_among m xs && the_values site facts m) (take_all k order done) ∙ among_all site facts order is m))
