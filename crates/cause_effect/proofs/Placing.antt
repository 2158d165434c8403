-- One marker more is placed.
use Rattle.std.proofs.Common.{◌≡◌, ◌≤◌, ◌<◌, ◌==◌, ◌||◌, ◌⊎◌, inl, inr, ℕ, zero, suc, Bool, true, false, List, [], ◌∷◌, ◌++◌, Some, length, take, refl, sym, ap, subst, ◌∙◌, arith}
use Rattle.std.specs.Prelude.{slice_get, slice_set}
use Rattle.std.specs.List.{list_all, list_any, IsDistinct}
use Rattle.std.proofs.lemmas.Bool.Decides.{eqb_tells}
use Rattle.std.proofs.lemmas.List.{get_or-set_same, get_or-set_other, take-append-le, take_all}
use Rattle.std.proofs.lemmas.List.Folds.{list_any-append}
use Rattle.site_types.specs.Valid.{IsValid}
use Rattle.site_types.specs.declared.site.Site.{Site}
use Rattle.site_types.specs.declared.term.Term.{Term}
use Rattle.site_types.specs.declared.term.Term.TheVariants.{Zone as ZoneTerm, Manual as ManualTerm, Fault as FaultTerm, Marker as MarkerTerm}
use Rattle.cause_effect.specs.Cycles.{is_among, is_marker, terms_of, has_term}
use Rattle.cause_effect.specs.Orders.{IsRising}
use Rattle.cause_effect.specs.Placed.{is_placed, is_term_placed, is_ready}
use Rattle.cause_effect.proofs.Truths.{and_first, and_second}
use Rattle.cause_effect.proofs.Walking.{distinct_push}

pub few_of : (site : Site) → IsValid site → length site.markers ≤ 256
few_of site valid = valid.forms.few_markers

-- where all markers among some terms have been placed, each has
ready_has : (placed : List Bool) (other : ℕ) (terms : List Term) → list_all (is_term_placed placed) terms ≡ true
    → list_any (is_marker other) terms ≡ true → is_placed placed other ≡ true
ready_has placed other [] ready has = cc
ready_has placed other (ZoneTerm place ∷ terms) ready has = ready_has placed other terms ready has
ready_has placed other (ManualTerm place ∷ terms) ready has = ready_has placed other terms ready has
ready_has placed other (FaultTerm panel ∷ terms) ready has = ready_has placed other terms ready has
ready_has placed other (MarkerTerm m ∷ terms) ready has = elim (eqb_tells other m) [
  | inl same ↦ ap (is_placed placed) same.1 ∙ and_first (is_placed placed m) (list_all (is_term_placed placed) terms) ready
  | inr apart ↦ ready_has placed other terms (and_second (is_placed placed m) (list_all (is_term_placed placed) terms) ready)
      (ap (λ b. b || list_any (is_marker other) terms) (sym apart.0) ∙ has)
]

pub term_placed : (site : Site) (placed : List Bool) (m other : ℕ) → is_ready site placed m ≡ true → has_term site m other ≡ true
    → is_placed placed other ≡ true
term_placed site placed m other ready has = ready_has placed other (terms_of (slice_get site.markers m)) ready has

among_push : (m x : ℕ) (order : List ℕ) → is_among m (order ++ x ∷ []) ≡ (is_among m order || ((m == x) || false))
among_push m x order = list_any-append (λ y. m == y) order (x ∷ [])

or_true : (a b : Bool) → b ≡ true → true ≡ (a || (b || false))
or_true true b e = refl
or_true false true e = refl
or_true false false e = sym e

or_none : (a b : Bool) → b ≡ false → a ≡ (a || (b || false))
or_none true b e = refl
or_none false true e = sym e
or_none false false e = refl

pub same_placed : (placed : List Bool) (order : List ℕ) (x : ℕ) → x < length placed → ((m : ℕ) → is_placed placed m ≡ is_among m order) →
    (m : ℕ) → is_placed (slice_set placed x true) m ≡ is_among m (order ++ x ∷ [])
same_placed placed order x within same m = elim (eqb_tells m x) [
  | inl here ↦
      ap (is_placed (slice_set placed x true)) here.1 ∙
      (get_or-set_same placed x true false within ∙ (or_true (is_among m order) (m == x) here.0 ∙ sym (among_push m x order)))
  | inr apart ↦ get_or-set_other placed x m true false apart.1 ∙ (same m ∙ (or_none (is_among m order) (m == x) apart.0 ∙ sym (among_push m x order)))
]

-- an item of a list with one more is one of the list or the last
push_at : (xs : List ℕ) (x k m : ℕ) → slice_get (xs ++ x ∷ []) k ≡ Some m → ((k < length xs) × (slice_get xs k ≡ Some m))
    ⊎ ((k ≡ length xs) × (x ≡ m))
push_at [] x zero m at = inr (refl, cc)
push_at [] x (suc k) m at = cc
push_at (y ∷ ys) x zero m at = inl (omega arith, at)
push_at (y ∷ ys) x (suc k) m at = elim (push_at ys x k m at) [
  | inl w ↦ (let less = w.0 in inl (omega (arith, less), w.1))
  | inr w ↦ (let same = w.0 in inr (omega (arith, same), w.1))
]

front_of_push : (k : ℕ) (xs : List ℕ) (x : ℕ) → k ≤ length xs → (other : ℕ) → is_among other (take k xs) ≡ true
    → is_among other (take k (xs ++ x ∷ [])) ≡ true
front_of_push k xs x less other h = ap (is_among other) (take-append-le k xs (x ∷ []) less) ∙ h

pub still_rising : (site : Site) (placed : List Bool) (order : List ℕ) (x : ℕ) → ((m : ℕ) → is_placed placed m ≡ is_among m order)
    → IsRising site order → is_ready site placed x ≡ true →
    IsRising site (order ++ x ∷ [])
still_rising site placed order x same rising ready k m other at term = elim (push_at order x k m at) [
  | inl w ↦ (let less = w.0 in front_of_push k order x (omega (arith, less)) other (rising k m other w.1 term))
  | inr w ↦ (let e = w.0 in front_of_push k order x (omega (arith, e)) other
      (ap (is_among other) (take_here k order e) ∙
      (sym (same other) ∙ term_placed site placed x other ready (ap (λ y. has_term site y other) w.1 ∙ term))))
]
  where
    take_here : (k : ℕ) (xs : List ℕ) → k ≡ length xs → take k xs ≡ xs
    take_here k xs e = take_all k xs (omega (arith, e))

pub none_rising : (site : Site) (order : List ℕ) → order ≡ [] → IsRising site order
none_rising site order e k m other at term = let h : slice_get {X = ℕ} [] k ≡ Some m = sym (ap (λ xs. slice_get xs k) e) ∙ at in cc h

pub none_once : (order : List ℕ) → order ≡ [] → IsDistinct (λ a b. a == b) order
unfolding IsDistinct
none_once order e = subst (IsDistinct (λ a b. a == b)) (sym e) tt

-- a marker that wasn't placed is placed once
pub still_once : (placed : List Bool) (order : List ℕ) (x : ℕ) → ((m : ℕ) → is_placed placed m ≡ is_among m order) → IsDistinct (λ a b. a == b) order
    → is_placed placed x ≡ false →
    IsDistinct (λ a b. a == b) (order ++ x ∷ [])
still_once placed order x same once fresh = distinct_push order x once (sym (same x) ∙ fresh)
