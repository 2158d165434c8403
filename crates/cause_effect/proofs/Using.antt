-- Who has a fact or a marker as a term, term by term and marker by marker.
use Rattle.std.proofs.Common.{◌≡◌, ◌≢◌, ◌≤◌, ◌<◌, ◌==◌, ◌+◌, ◌*◌, ◌-◌, ◌&&◌, ◌||◌, inl, inr, ℕ, zero, suc, Bool, true}
use Rattle.std.proofs.Common.{false, List, [], ◌∷◌, ◌++◌, Option, Some, None, length, take, drop, get_or}
use Rattle.std.proofs.Common.{refl, sym, ap, ◌∙◌, arith}
use Rattle.std.specs.Prelude.{slice_get, slice_set}
use Rattle.std.specs.List.{list_any}
use Rattle.std.proofs.lemmas.Bool.Decides.{eqb_tells, nat_tests}
use Rattle.std.proofs.lemmas.List.{take-append-le, take_all, take_more}
use Rattle.std.proofs.lemmas.List.Folds.{list_any-append}
use Rattle.std.proofs.lemmas.Option.{get_or_from_slice_get, slice_get_within}
use Rattle.site_types.specs.Valid.{IsValid, IsTerm}
use Rattle.site_types.specs.declared.site.Site.{Site}
use Rattle.site_types.specs.declared.marker.Marker.{Marker}
use Rattle.site_types.specs.declared.zone.Zone.{Zone}
use Rattle.site_types.specs.declared.term.Term.{Term}
use Rattle.site_types.specs.declared.term.Term.TheVariants.{Zone as ZoneTerm, Manual as ManualTerm, Fault as FaultTerm, Marker as MarkerTerm}
use Rattle.site_types.proofs.ValidSites.{zone_numbers, term_of_marker}
use Rattle.marker_table.specs.declared.values.Values.{Values}
use Rattle.marker_table.specs.Equations.{values_of}
use Rattle.marker_table.specs.Table.{zone_index, input_of}
use Rattle.marker_table.proofs.Rows.{item_at}
use Rattle.cause_effect.specs.Cycles.{is_marker, has_term, terms_of}
use Rattle.cause_effect.specs.Users.{place_of, looks_at, uses, is_user, has_marker}
use Rattle.cause_effect.proofs.Changing.{or_false}
use Rattle.cause_effect.proofs.Truths.{or_right}

-- ---- truth values

pub or_more : (a b c : Bool) → ((a || b) || c) ≡ (a || (b || c))
or_more true b c = refl
or_more false b c = refl

pub or_none : (a b : Bool) → b ≡ false → a ≡ (a || b)
or_none true b e = refl
or_none false b e = sym e

-- ---- adding the terms of a marker

got_same : (sets : List Values) (k : ℕ) (set : Values) → k < length sets → slice_get (slice_set sets k set) k ≡ Some set
got_same [] k set less = absurd (omega (arith, less))
got_same (first ∷ sets) zero set less = refl
got_same (first ∷ sets) (suc k) set less = got_same sets k set (omega (arith, less))

got_other : (sets : List Values) (k j : ℕ) (set : Values) → j ≢ k → slice_get (slice_set sets k set) j ≡ slice_get sets j
got_other [] k j set apart = refl
got_other (first ∷ sets) zero zero set apart = absurd (apart refl)
got_other (first ∷ sets) zero (suc j) set apart = refl
got_other (first ∷ sets) (suc k) zero set apart = refl
got_other (first ∷ sets) (suc k) (suc j) set apart = got_other sets k j set (λ e. apart (ap suc e))

-- a set with one place more
pub set_more : (old more : ℕ → Bool) (x : ℕ) → more x ≡ true → ((m : ℕ) → m ≢ x → more m ≡ old m) → (m : ℕ) → more m ≡ (old m || (m == x))
set_more old more x this others m = elim (eqb_tells m x) [
  | inl here ↦ ap more here.1 ∙ (this ∙ sym (or_right (old m) (m == x) here.0))
  | inr apart ↦ others m apart.1 ∙ or_none (old m) (m == x) apart.0
]

-- users more at one place
user_put : (sets : List Values) (place : ℕ) (old set : Values) (own : ℕ → Bool) → place < length sets → slice_get sets place ≡ Some old →
    ((m : ℕ) → values_of set m ≡ (values_of old m || own m)) →
    (p m : ℕ) → is_user (slice_set sets place set) p m ≡ (is_user sets p m || (own m && (p == place)))
user_put sets place old set own fits at is p m = elim (eqb_tells p place) [
  | inl here ↦
      (ap (λ n. is_user (slice_set sets place set) n m) here.1 ∙ (ap (λ o. has_marker o m) (got_same sets place set fits) ∙
      (is m ∙ (put (values_of old m) (own m) (p == place) here.0 ∙
      ap (λ b. b || (own m && (p == place))) (sym (ap (λ n. is_user sets n m) here.1 ∙ ap (λ o. has_marker o m) at))))))
  | inr apart ↦ (ap (λ o. has_marker o m) (got_other sets place p set apart.1) ∙ kept (is_user sets p m) (own m) (p == place) apart.0)
]
  where
    put : (a b c : Bool) → c ≡ true → (a || b) ≡ (a || (b && c))
    put true b c e = refl
    put false true c e = sym e
    put false false c e = refl

    kept : (a b c : Bool) → c ≡ false → a ≡ (a || (b && c))
    kept true b c e = refl
    kept false true c e = sym e
    kept false false c e = refl

-- the users with one more term
pub term_added : (site : Site) (first sets : List Values) (terms : List Term) (k : ℕ) (own : ℕ → Bool) (term : Term) (old set : Values)
    → slice_get terms k ≡ Some term →
    place_of (input_of site term) < length sets → slice_get sets (place_of (input_of site term)) ≡ Some old →
    ((m : ℕ) → values_of set m ≡ (values_of old m || own m)) →
    ((p m : ℕ) → is_user sets p m ≡ (is_user first p m || (own m && list_any (looks_at site p) (take k terms)))) →
    (p m : ℕ)
    → is_user (slice_set sets (place_of (input_of site term)) set) p m
    ≡ (is_user first p m || (own m && list_any (looks_at site p) (take (k + 1) terms)))
term_added site first sets terms k own term old set at fits there joined known p m =
    user_put sets (place_of (input_of site term)) old set own fits there joined p m ∙
    (ap (λ b. b || (own m && (p == place_of (input_of site term)))) (known p m) ∙
    (together (is_user first p m) (own m) (list_any (looks_at site p) (take k terms)) (p == place_of (input_of site term)) ∙
    ap (λ b. is_user first p m || (own m && b)) (sym (any_next (looks_at site p) terms k term at))))
  where
    together : (a b c d : Bool) → ((a || (b && c)) || (b && d)) ≡ (a || (b && (c || d)))
    together true b c d = refl
    together false true c d = refl
    together false false c d = refl

    any_next : (test : Term → Bool) (terms : List Term) (k : ℕ) (term : Term) → slice_get terms k ≡ Some term
        → list_any test (take (k + 1) terms) ≡ (list_any test (take k terms) || test term)
    any_next test terms k term at =
        ap (list_any test) (take_more terms k term (slice_get_within terms k term at)) ∙
        (list_any-append test (take k terms) (get_or terms k term ∷ []) ∙
        (or_false (list_any test (take k terms)) (test (get_or terms k term)) ∙ ap (λ t. list_any test (take k terms) || test t)
        (get_or_from_slice_get terms k term term at)))

-- what a term looks at has a place
pub place_fits : (site : Site) → IsValid site → (term : Term) → IsTerm site term → place_of (input_of site term) < 776
place_fits site valid (ZoneTerm place) is = let at = item_at site.zones place is in let n = zone_numbers site valid place at.0 at.1 in
    rw at.1 (omega (arith, n))
place_fits site valid (ManualTerm place) is = let at = item_at site.zones place is in let n = zone_numbers site valid place at.0 at.1 in
    rw at.1 (omega (arith, n))
place_fits site valid (FaultTerm panel) is = let most = valid.forms.panels.1 in omega (arith, is, most)
place_fits site valid (MarkerTerm other) is = let few = valid.forms.few_markers in omega (arith, is, few)

-- ---- no user

-- one more place without a user
pub none_pushed : (sets : List Values) (set : Values) → ((place m : ℕ) → is_user sets place m ≡ false) → ((m : ℕ) → values_of set m ≡ false)
    → (place m : ℕ) → is_user (sets ++ set ∷ []) place m ≡ false
none_pushed [] set none empty zero m = empty m
none_pushed [] set none empty (suc place) m = refl
none_pushed (first ∷ sets) set none empty zero m = none 0 m
none_pushed (first ∷ sets) set none empty (suc place) m = none_pushed sets set (λ p n. none (suc p) n) empty place m

-- ---- the users of a marker

any_same : (p q : Term → Bool) (terms : List Term) → ((k : ℕ) (term : Term) → slice_get terms k ≡ Some term → p term ≡ q term)
    → list_any p terms ≡ list_any q terms
any_same p q [] same = refl
any_same p q (x ∷ xs) same = ap (λ b. b || list_any p xs) (same 0 x refl) ∙ ap (λ b. q x || b) (any_same p q xs (λ k y at. same (suc k) y at))

number_apart : (m n : ℕ) → (m ≡ n → ⊥) → (m == n) ≡ false
number_apart m n apart = elim (eqb_tells m n) [
  | inl same ↦ absurd (apart same.1)
  | inr other ↦ other.0
]

number_moved : (d m n : ℕ) → ((d + m) == (d + n)) ≡ (m == n)
number_moved d m n = grind (arith, nat_tests)

looks_at_marker : (site : Site) → IsValid site → (x : ℕ) (term : Term) → x < 256 → IsTerm site term → looks_at site (512 + x) term ≡ is_marker x term
looks_at_marker site valid x (ZoneTerm place) fits is =
    let at = item_at site.zones place is in
    let n = zone_numbers site valid place at.0 at.1 in
    number_apart (512 + x) (zone_index (slice_get site.zones place)) (λ e. far (slice_get site.zones place) at.0 at.1 n e)
  where
    far : (found : Option Zone) (z : Zone) → found ≡ Some z → (1 ≤ z.panel) × (z.panel ≤ 8) × (1 ≤ z.number) × (z.number ≤ 32)
        → 512 + x ≡ zone_index found → ⊥
    far found z at n e = let f : 512 + x ≡ 32 * (z.panel - 1) + (z.number - 1) = e ∙ ap zone_index at in omega (arith, f, n)
looks_at_marker site valid x (ManualTerm place) fits is =
    let at = item_at site.zones place is in
    let n = zone_numbers site valid place at.0 at.1 in
    number_apart (512 + x) (256 + zone_index (slice_get site.zones place)) (λ e. far (slice_get site.zones place) at.0 at.1 n e)
  where
    far : (found : Option Zone) (z : Zone) → found ≡ Some z → (1 ≤ z.panel) × (z.panel ≤ 8) × (1 ≤ z.number) × (z.number ≤ 32)
        → 512 + x ≡ 256 + zone_index found → ⊥
    far found z at n e = let f : 512 + x ≡ 256 + (32 * (z.panel - 1) + (z.number - 1)) = e ∙ ap (λ (o : Option Zone). 256 + zone_index o) at in
        omega (arith, f, n)
looks_at_marker site valid x (FaultTerm panel) fits is = number_apart (512 + x) (768 + (panel - 1)) (λ e. omega (arith, e, fits))
looks_at_marker site valid x (MarkerTerm other) fits is = number_moved 512 x other

-- the users at a marker's place are the markers that have it as a term
pub uses_marker : (site : Site) → IsValid site → (x m : ℕ) → x < 256 → uses site m (512 + x) ≡ has_term site m x
uses_marker site valid x m fits = same (slice_get site.markers m) refl
  where
    same : (marker : Option Marker) → slice_get site.markers m ≡ marker
        → list_any (looks_at site (512 + x)) (terms_of marker) ≡ list_any (is_marker x) (terms_of marker)
    same None at = refl
    same (Some marker) at = any_same (looks_at site (512 + x)) (is_marker x) marker.terms
        (λ k term has. looks_at_marker site valid x term fits (term_of_marker site valid m marker k term at has))

-- ---- what the code's slices and truth values are

pub written_back : {X : Type 0} (n : ℕ) (more old : List X) → length more ≡ n → take n (more ++ drop (length more) old) ≡ more
written_back n more old same = take-append-le n more (drop (length more) old) (omega (arith, same)) ∙ take_all n more (omega (arith, same))
