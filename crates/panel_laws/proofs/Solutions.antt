-- The solution of the markers: found to a depth that no chain of terms passes, and the only one.
use Rattle.std.proofs.Common.{◌≡◌, ◌≤◌, ◌<◌, ◌+◌, ◌==◌, ◌||◌, inl, inr, ℕ, zero, suc, Bool, true, false, List, [], ◌∷◌, length, Option, Some, None, refl, sym, ◌∙◌, ap, subst, arith, if◌then◌else◌}
use Rattle.std.specs.Prelude.{slice_get, count_by}
use Rattle.std.specs.List.{list_any, list_all, IsDistinct}
use Rattle.std.proofs.lemmas.Bool.Decides.{eqb_tells}
use Rattle.std.proofs.lemmas.List.Sums.{sum_by-cons}
use Rattle.std.proofs.lemmas.Map.Steps.{length-le_from_distinct_below}
use Rattle.site_types.specs.declared.combine.Combine.{Combine}
use Rattle.site_types.specs.declared.combine.Combine.TheVariants.{All, Any, AtLeast}
use Rattle.site_types.specs.declared.marker.Marker.{Marker as MarkerPlan}
use Rattle.site_types.specs.declared.site.Site.{Site}
use Rattle.site_types.specs.declared.term.Term.{Term}
use Rattle.site_types.specs.declared.term.Term.TheVariants.{Zone, Manual, Fault, Marker}
use Rattle.site_types.specs.Valid.{IsCombine}
use Rattle.marker_table.specs.Equations.{is_met}
use Rattle.cause_effect.specs.Cycles.{HasNoCycle, is_marker, terms_of}
use Rattle.cause_effect.proofs.Depths.{Chain, chain_fits, chain_on, no_chain, none_equal}
use Rattle.cause_effect.proofs.Truths.{Passes, any_at, equal_number, met_same, one_passes}
use Rattle.panel_laws.specs.MarkerLaws.{OneSolution, SolutionSolves}
use Rattle.panel_rules.specs.Markers.{Facts, IsSolution, equation, holds, solved}
use Rattle.panel_rules.proofs.Bools.{parts}
use Rattle.panel_rules.proofs.Floors.{le_from}

-- ---- of terms that make a marker true, one holds

later : {X : Type 0} (p : X → Bool) (x : X) (xs : List X) → Passes p xs → Passes p (x ∷ xs)
later p x xs w = record { place = suc w.place; item = w.item; at = w.at; passes = w.passes }

counted_passes : {X : Type 0} (p : X → Bool) (xs : List X) → 1 ≤ count_by p xs → Passes p xs
counted_passes p [] l = absurd (omega (arith, l))
counted_passes p (x ∷ xs) l = go (p x) refl (counted_passes p xs)
  where
    go : (b : Bool) → p x ≡ b → (1 ≤ count_by p xs → Passes p xs) → Passes p (x ∷ xs)
    go true e more = record { place = 0; item = x; at = refl; passes = e }
    go false e more =
        let s = sum_by-cons (λ y. if p y then 1 else 0) x xs in
        let z = ap {B = ℕ} (λ b. if b then 1 else 0) e in
        later p x xs (more (omega (arith, l, s, z)))

all_passes : {X : Type 0} (p : X → Bool) (xs : List X) → 1 ≤ length xs → list_all p xs ≡ true → Passes p xs
all_passes p [] l h = absurd (omega (arith, l))
all_passes p (x ∷ xs) l h = record { place = 0; item = x; at = refl; passes = (parts (p x) (list_all p xs) h).0 }

pub one_holds : {X : Type 0} (combine : Combine) (p : X → Bool) (xs : List X) → 1 ≤ length xs → IsCombine (length xs) combine
    → is_met combine p xs ≡ true → Passes p xs
one_holds All p xs l c h = all_passes p xs l h
one_holds Any p xs l c h = one_passes p xs h
one_holds (AtLeast needed) p xs l c h = counted_passes p xs (let k = le_from needed (count_by p xs) h in let one = c.0 in omega (arith, k, one))

-- ---- what its terms make of a marker goes by its terms alone

holds_same : (facts : Facts) (v w : ℕ → Bool) (term : Term) → ((other : ℕ) → is_marker other term ≡ true → v other ≡ w other)
    → holds facts v term ≡ holds facts w term
holds_same facts v w (Zone zone) same = refl
holds_same facts v w (Manual zone) same = refl
holds_same facts v w (Fault panel) same = refl
holds_same facts v w (Marker other) same = same other (equal_number other)

makes_same : (facts : Facts) (v w : ℕ → Bool) (marker : Option MarkerPlan)
    → ((other : ℕ) → list_any (is_marker other) (terms_of marker) ≡ true → v other ≡ w other) → equation facts v marker ≡ equation facts w marker
makes_same facts v w None same = refl
makes_same facts v w (Some marker) same =
    met_same marker.combine (holds facts v) (holds facts w) marker.terms
    (λ k term at. holds_same facts v w term (λ other is. same other (any_at (is_marker other) marker.terms k term at is)))

-- ---- a chain of terms that meets no marker twice ends

-- a marker more at its end would be one too many
too_long : (site : Site) (m : ℕ) (marker : MarkerPlan) (seen : List ℕ) → Chain site m seen → list_any (λ x. m == x) seen ≡ false
    → m < length site.markers → length site.markers ≤ length seen → ⊥
unfolding IsDistinct
too_long site m marker seen w fresh within long =
    let few = length-le_from_distinct_below (m ∷ seen) (length site.markers) (none_equal m seen fresh, w.distinct) small in omega (arith, few, long)
  where
    small : (q : ℕ) → list_any (λ x. q == x) (m ∷ seen) ≡ true → q < length site.markers
    small q h = elim (eqb_tells q m) [
      | inl same ↦ subst (λ n. n < length site.markers) (sym same.1) within
      | inr apart ↦ w.small q (ap (λ b. b || list_any (λ x. q == x) seen) (sym apart.0) ∙ h)
    ]

is_within : (markers : List MarkerPlan) (m : ℕ) (marker : MarkerPlan) → slice_get markers m ≡ Some marker → m < length markers
is_within [] m marker at = cc
is_within (x ∷ markers) zero marker at = omega arith
is_within (x ∷ markers) (suc m) marker at = let less = is_within markers m marker at in omega (arith, less)

module _ (site : Site) (facts : Facts) (free : HasNoCycle site) where
  -- one depth more changes nothing
  at_the_end : (m : ℕ) (seen : List ℕ) → Chain site m seen → length site.markers ≤ length seen → (o : Option MarkerPlan)
      → slice_get site.markers m ≡ o → false ≡ equation facts (solved site facts 0) o
  at_the_end m seen w long None is = refl
  at_the_end m seen w long (Some marker) is = go (list_any (λ x. m == x) seen) refl
    where
      go : (b : Bool) → list_any (λ x. m == x) seen ≡ b → false ≡ equation facts (solved site facts 0) (Some marker)
      go true e = absurd (free m (w.leads m e))
      go false e = absurd (too_long site m marker seen w e (is_within site.markers m marker is) long)

  settles : (depth m : ℕ) (seen : List ℕ) → Chain site m seen → length site.markers ≤ depth + length seen
      → solved site facts depth m ≡ solved site facts (suc depth) m
  settles zero m seen w far = at_the_end m seen w (omega (arith, far)) (slice_get site.markers m) refl
  settles (suc depth) m seen w far = go (list_any (λ x. m == x) seen) refl
      (λ fresh. makes_same facts (solved site facts depth) (solved site facts (suc depth)) (slice_get site.markers m)
      (λ other term. settles depth other (m ∷ seen) (chain_on site m other seen w fresh term) (omega (arith, far))))
    where
      go : (b : Bool) → list_any (λ x. m == x) seen ≡ b
          → (list_any (λ x. m == x) seen ≡ false → solved site facts (suc depth) m ≡ solved site facts (suc (suc depth)) m) →
          solved site facts (suc depth) m ≡ solved site facts (suc (suc depth)) m
      go true e f = absurd (free m (w.leads m e))
      go false e f = f e

  agrees : (v w : ℕ → Bool) → IsSolution site facts v → IsSolution site facts w → (fuel m : ℕ) (seen : List ℕ) → Chain site m seen
      → length site.markers < fuel + length seen → v m ≡ w m
  agrees v w sv sw zero m seen chain far = absurd (chain_fits site m seen chain (omega (arith, far)))
  agrees v w sv sw (suc fuel) m seen chain far = go (list_any (λ x. m == x) seen) refl
      (λ fresh. sv m ∙ (makes_same facts v w (slice_get site.markers m)
      (λ other term. agrees v w sv sw fuel other (m ∷ seen) (chain_on site m other seen chain fresh term) (omega (arith, far))) ∙ sym (sw m)))
    where
      go : (b : Bool) → list_any (λ x. m == x) seen ≡ b → (list_any (λ x. m == x) seen ≡ false → v m ≡ w m) → v m ≡ w m
      go true e f = absurd (free m (chain.leads m e))
      go false e f = f e

pub solution_is : SolutionSolves
solution_is site facts free m = settles site facts free (length site.markers) m [] (no_chain site m) (omega arith)

pub no_other : OneSolution
no_other site facts values free is m =
    agrees site facts free values (λ marker. solved site facts (length site.markers) marker) is (solution_is site facts free)
    (suc (length site.markers)) m [] (no_chain site m) (omega arith)
