-- Where there is an order, no marker of it depends on itself.
use Rattle.std.proofs.Common.{◌≡◌, ◌≤◌, ◌<◌, ◌==◌, ◌||◌, inl, inr, ℕ, zero, suc, true, List, [], ◌∷◌, Some, length, take, refl, sym, ap, ◌∙◌, arith}
use Rattle.std.specs.Prelude.{slice_get}
use Rattle.std.proofs.lemmas.Bool.Decides.{eqb_tells}
use Rattle.site_types.specs.declared.site.Site.{Site}
use Rattle.cause_effect.specs.Cycles.{has_term, is_among, Depends, directly, through, HasNoCycle}
use Rattle.cause_effect.specs.Orders.{IsRising, IsOrder}
use Rattle.cause_effect.proofs.Equations.{has_within}
use Rattle.cause_effect.proofs.Truths.{any_at, equal_number}

-- ---- fronts of a list

-- a number of the first k, and its place
pub record StandsBefore (m k : ℕ) (xs : List ℕ) : Type 0 where
  pub place : ℕ
  pub before : place < k
  pub at : slice_get xs place ≡ Some m

stands_later : (m k x : ℕ) (xs : List ℕ) → StandsBefore m k xs → StandsBefore m (suc k) (x ∷ xs)
stands_later m k x xs w = let less = w.before in record { place = suc w.place; before = omega (arith, less); at = w.at }

pub stands : (m k : ℕ) (xs : List ℕ) → is_among m (take k xs) ≡ true → StandsBefore m k xs
stands m zero xs h = cc
stands m (suc k) [] h = cc
stands m (suc k) (x ∷ xs) h = elim (eqb_tells m x) [
  | inl same ↦ record { place = 0; before = omega arith; at = ap Some (sym same.1) }
  | inr apart ↦ stands_later m k x xs (stands m k xs (ap (λ b. b || is_among m (take k xs)) (sym apart.0) ∙ h))
]

front_at : (m k j : ℕ) (xs : List ℕ) → j < k → slice_get xs j ≡ Some m → slice_get (take k xs) j ≡ Some m
front_at m zero j xs less at = absurd (omega (arith, less))
front_at m (suc k) j [] less at = at
front_at m (suc k) zero (x ∷ xs) less at = at
front_at m (suc k) (suc j) (x ∷ xs) less at = front_at m k j xs (omega (arith, less)) at

pub among_front : (m k : ℕ) (xs : List ℕ) → StandsBefore m k xs → is_among m (take k xs) ≡ true
among_front m k xs w = any_at (λ x. m == x) (take k xs) w.place m (front_at m k w.place xs w.before w.at) (equal_number m)

pub further : (m j k : ℕ) (xs : List ℕ) → j ≤ k → is_among m (take j xs) ≡ true → is_among m (take k xs) ≡ true
further m j k xs less h =
    let w = stands m j xs h in
    let before = w.before in
    among_front m k xs (record { place = w.place; before = omega (arith, before, less); at = w.at })

-- ---- an order

-- the terms of a marker among the first k are among them
term_before : (site : Site) (order : List ℕ) → IsRising site order → (k m other : ℕ) → StandsBefore m k order → has_term site m other ≡ true
    → is_among other (take k order) ≡ true
term_before site order rising k m other w term =
    let before = w.before in
    further other w.place k order (omega (arith, before)) (rising w.place m other w.at term)

-- and so is all on which it depends
pub closed : (site : Site) (order : List ℕ) → IsRising site order → (k m other : ℕ) → is_among m (take k order) ≡ true → Depends site m other
    → is_among other (take k order) ≡ true
closed site order rising k m other h (directly a b term) = term_before site order rising k a b (stands a k order h) term
closed site order rising k m other h (through a next b term d) =
    closed site order rising k next b (term_before site order rising k a next (stands a k order h) term) d

-- what a marker that depends on itself has as its first term depends on that marker again, or is it
first_step : (site : Site) (order : List ℕ) → IsRising site order → (j m : ℕ) → slice_get order j ≡ Some m → (other : ℕ) → Depends site m other
    → is_among other (take j order) ≡ true
first_step site order rising j m at other (directly a b term) = rising j a b at term
first_step site order rising j m at other (through a next b term d) = closed site order rising j next b (rising j a next at term) d

pub free_front : (site : Site) (order : List ℕ) → IsRising site order → (k m : ℕ) → is_among m (take k order) ≡ true → Depends site m m → ⊥
free_front site order rising zero m h d = cc
free_front site order rising (suc k) m h d =
    let w = stands m (suc k) order h in
    let before = w.before in
    free_front site order rising k m (further m w.place k order (omega (arith, before)) (first_step site order rising w.place m w.at m d)) d

pub take_whole : (xs : List ℕ) → take (length xs) xs ≡ xs
take_whole [] = refl
take_whole (x ∷ xs) = ap (λ rest. x ∷ rest) (take_whole xs)

pub free_among : (site : Site) (order : List ℕ) → IsRising site order → (m : ℕ) → is_among m order ≡ true → Depends site m m → ⊥
free_among site order rising m h d = free_front site order rising (length order) m (ap (is_among m) (take_whole order) ∙ h) d

pub closed_among : (site : Site) (order : List ℕ) → IsRising site order → (m other : ℕ) → is_among m order ≡ true → Depends site m other
    → is_among other order ≡ true
closed_among site order rising m other h d =
    sym (ap (is_among other) (take_whole order)) ∙ closed site order rising (length order) m other (ap (is_among m) (take_whole order) ∙ h) d

pub depends_within : (site : Site) (m other : ℕ) → Depends site m other → m < length site.markers
depends_within site m other (directly a b term) = has_within site a b term
depends_within site m other (through a next b term d) = has_within site a next term

pub order_is_free : (site : Site) (order : List ℕ) → IsOrder site order → HasNoCycle site
order_is_free site order is m d = free_among site order is.rising m (is.whole m (depends_within site m m d)) d
