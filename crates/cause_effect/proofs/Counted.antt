-- There is one number of the markers that depend on a change, and what it is in written cases.
use Rattle.std.proofs.Common.{◌≡◌, ◌≢◌, ◌≤◌, ◌<◌, ◌==◌, ◌-◌, ◌||◌, inl, inr, ℕ, zero, suc, Bool, true, false, List, [], ◌∷◌, refl, sym, ap, subst, ◌∙◌, arith, if◌then◌else◌}
use Rattle.std.specs.Prelude.{slice_get}
use Rattle.std.specs.List.{list_any, IsDistinct}
use Rattle.std.proofs.lemmas.Bool.Decides.{eqb_tells}
use Rattle.std.proofs.lemmas.Cmp.{nat_eq_equiv}
use Rattle.std.proofs.lemmas.Map.Made.{length-from_same_keys}
use Rattle.site_types.specs.declared.site.Site.{Site}
use Rattle.site_types.specs.declared.term.Term.{Term}
use Rattle.site_types.specs.declared.term.Term.TheVariants.{Zone as ZoneTerm}
use Rattle.marker_table.specs.declared.facts.Facts.{Facts}
use Rattle.cause_effect.specs.Changes.{is_changed, has_changed, DependsOnChanged, directly, through, IsNumberOf}
use Rattle.cause_effect.specs.Cycles.{has_term, is_among, is_marker, terms_of}
use Rattle.cause_effect.specs.Written.{is_zone, ChangesZone, AreTwo, IsChain, chain_terms}
use Rattle.cause_effect.proofs.Changing.{depends_within}
use Rattle.cause_effect.proofs.Equations.{has_within}
use Rattle.cause_effect.proofs.Truths.{equal_number, number_is, same_bool}

-- ---- one number

pub one_number : (IsSo : ℕ → Type 0) (m n : ℕ) → IsNumberOf IsSo m → IsNumberOf IsSo n → m ≡ n
one_number IsSo m n v w =
    sym v.counted ∙ (length-from_same_keys nat_eq_equiv v.members w.members v.once w.once
    (λ q. same_bool (is_among q v.members) (is_among q w.members) (λ h. w.all q (v.only q h)) (λ h. v.all q (w.only q h))) ∙ w.counted)

-- ---- a change of one zone

-- which markers have the zone as a term
zone_changed : (site : Site) (before after : Facts) (zone : ℕ) → ChangesZone site before after zone → (terms : List Term)
    → list_any (is_changed site before after) terms ≡ list_any (is_zone zone) terms
zone_changed site before after zone changes [] = refl
zone_changed site before after zone changes (term ∷ terms) =
    ap (λ b. b || list_any (is_changed site before after) terms) (changes term) ∙ ap (λ b. is_zone zone term || b)
    (zone_changed site before after zone changes terms)

changed_terms : (site : Site) (before after : Facts) (zone m : ℕ) (terms : List Term) → ChangesZone site before after zone
    → terms_of (slice_get site.markers m) ≡ terms →
    has_changed site before after m ≡ list_any (is_zone zone) terms
changed_terms site before after zone m terms changes e =
    ap (list_any (is_changed site before after)) e ∙ zone_changed site before after zone changes terms

number_apart : (m n : ℕ) → m ≢ n → (m == n) ≡ false
number_apart m n apart = elim (eqb_tells m n) [
  | inl same ↦ absurd (apart same.1)
  | inr other ↦ other.0
]

last_of_or : (b : Bool) → (b || false) ≡ true → b ≡ true
last_of_or true h = refl
last_of_or false h = h

-- ---- two markers

two_free : (site : Site) (hall lab : ℕ) → AreTwo site hall lab → (m next : ℕ) → has_term site m next ≡ true → ⊥
two_free site hall lab two zero next h = let e : false ≡ true = sym (ap (list_any (is_marker next)) two.first) ∙ h in cc e
two_free site hall lab two (suc zero) next h = let e : false ≡ true = sym (ap (list_any (is_marker next)) two.second) ∙ h in cc e
two_free site hall lab two (suc (suc m)) next h = let less = has_within site (suc (suc m)) next h in let size = two.size in
    absurd (omega (arith, less, size))

two_changed : (site : Site) (before after : Facts) (hall lab : ℕ) → AreTwo site hall lab → ChangesZone site before after lab → (m : ℕ)
    → has_changed site before after m ≡ true → m ≡ 0
two_changed site before after hall lab two changes zero h = refl
two_changed site before after hall lab two changes (suc zero) h =
    let same = last_of_or (hall == lab) (sym (changed_terms site before after lab 1 (ZoneTerm hall ∷ []) changes two.second) ∙ h) in
    absurd (two.apart (number_is hall lab same))
two_changed site before after hall lab two changes (suc (suc m)) h =
    let less = depends_within site before after (suc (suc m)) (directly (suc (suc m)) h) in let size = two.size in absurd (omega (arith, less, size))

only_first : (site : Site) (before after : Facts) (hall lab : ℕ) → AreTwo site hall lab → ChangesZone site before after lab → (m : ℕ)
    → DependsOnChanged site before after m → m ≡ 0
only_first site before after hall lab two changes m (directly n h) = two_changed site before after hall lab two changes n h
only_first site before after hall lab two changes m (through n next term d) = absurd (two_free site hall lab two n next term)

first_changes : (site : Site) (before after : Facts) (hall lab : ℕ) → AreTwo site hall lab → ChangesZone site before after lab
    → DependsOnChanged site before after 0
first_changes site before after hall lab two changes =
    directly 0 (changed_terms site before after lab 0 (ZoneTerm hall ∷ ZoneTerm lab ∷ []) changes two.first ∙ second (hall == lab) (lab == lab)
    (equal_number lab))
  where
    second : (a b : Bool) → b ≡ true → (a || (b || false)) ≡ true
    second true b e = refl
    second false true e = refl
    second false false e = e

pub one_of_two : (site : Site) (before after : Facts) (hall lab : ℕ) → AreTwo site hall lab → ChangesZone site before after lab
    → IsNumberOf (DependsOnChanged site before after) 1
unfolding IsDistinct
one_of_two site before after hall lab two changes = record {
  members = 0 ∷ [];
  once = (tt, tt);
  all = λ m d. subst (λ n. ((n == 0) || false) ≡ true) (sym (only_first site before after hall lab two changes m d)) refl;
  only =
      λ m h. subst (DependsOnChanged site before after) (sym (number_is m 0 (last_of_or (m == 0) h)))
      (first_changes site before after hall lab two changes);
  counted = refl;
}

both_change : (site : Site) (before after : Facts) (hall lab : ℕ) → AreTwo site hall lab → ChangesZone site before after hall → (m : ℕ)
    → ((m == 0) || ((m == 1) || false)) ≡ true →
    DependsOnChanged site before after m
both_change site before after hall lab two changes zero h =
    directly 0 (changed_terms site before after hall 0 (ZoneTerm hall ∷ ZoneTerm lab ∷ []) changes two.first ∙ ap (λ b. b || ((lab == hall) || false))
    (equal_number hall))
both_change site before after hall lab two changes (suc zero) h =
    directly 1 (changed_terms site before after hall 1 (ZoneTerm hall ∷ []) changes two.second ∙ ap (λ b. b || false) (equal_number hall))
both_change site before after hall lab two changes (suc (suc m)) h = absurd (far (suc (suc m)) (omega arith) h)
  where
    far : (m : ℕ) → 2 ≤ m → ((m == 0) || ((m == 1) || false)) ≡ true → ⊥
    far m much h = let e : ((m == 0) || ((m == 1) || false)) ≡ false =
        rw (number_apart m 0 (λ e. omega (arith, much, e)), number_apart m 1 (λ e. omega (arith, much, e))) refl in cc (e, h)

few_two : (site : Site) (before after : Facts) (hall lab : ℕ) → AreTwo site hall lab → (m : ℕ) → DependsOnChanged site before after m
    → ((m == 0) || ((m == 1) || false)) ≡ true
few_two site before after hall lab two zero d = refl
few_two site before after hall lab two (suc zero) d = refl
few_two site before after hall lab two (suc (suc m)) d = let less = depends_within site before after (suc (suc m)) d in let size = two.size in
    absurd (omega (arith, less, size))

pub both_of_two : (site : Site) (before after : Facts) (hall lab : ℕ) → AreTwo site hall lab → ChangesZone site before after hall
    → IsNumberOf (DependsOnChanged site before after) 2
unfolding IsDistinct
both_of_two site before after hall lab two changes = record {
  members = 0 ∷ 1 ∷ [];
  once = ((refl, tt), (tt, tt));
  all = few_two site before after hall lab two;
  only = both_change site before after hall lab two changes;
  counted = refl;
}

-- ---- a chain

-- the zones among the terms of a marker of a chain
chain_zones : (count hall lab m : ℕ) → hall ≢ lab → list_any (is_zone lab) (chain_terms count hall lab m) ≡ true → suc m ≡ count
chain_zones count hall lab zero apart h = absurd (apart (number_is hall lab (last_of_or (hall == lab) h)))
chain_zones count hall lab (suc m) apart h = go (suc (suc m) == count) refl h
  where
    go : (b : Bool) → (suc (suc m) == count) ≡ b → list_any (is_zone lab) (if b then ZoneTerm lab ∷ [] else []) ≡ true → suc (suc m) ≡ count
    go true e h = number_is (suc (suc m)) count e
    go false e h = cc h

-- the marker among its terms
chain_marker : (count hall lab m next : ℕ) → list_any (is_marker next) (chain_terms count hall lab m) ≡ true → suc next ≡ m
chain_marker count hall lab zero next h = cc h
chain_marker count hall lab (suc m) next h = go (suc (suc m) == count) h
  where
    go : (b : Bool) → ((next == m) || list_any (is_marker next) (if b then ZoneTerm lab ∷ [] else [])) ≡ true → suc next ≡ suc m
    go true h = ap suc (number_is next m (last_of_or (next == m) h))
    go false h = ap suc (number_is next m (last_of_or (next == m) h))

only_last : (site : Site) (before after : Facts) (count hall lab : ℕ) → IsChain site count hall lab → ChangesZone site before after lab → (m : ℕ)
    → DependsOnChanged site before after m → suc m ≡ count
only_last site before after count hall lab chain changes m (directly n h) =
    let less = depends_within site before after n (directly n h) in
    let size = chain.size in
    let within : n < count = omega (arith, less, size) in
    chain_zones count hall lab n chain.apart
    (sym (changed_terms site before after lab n (chain_terms count hall lab n) changes (chain.terms n within)) ∙ h)
only_last site before after count hall lab chain changes m (through n next term d) =
    let less = has_within site n next term in
    let size = chain.size in
    let within : n < count = omega (arith, less, size) in
    let last = only_last site before after count hall lab chain changes next d in
    let step = chain_marker count hall lab n next (sym (ap (list_any (is_marker next)) (chain.terms n within)) ∙ term) in
    absurd (omega (arith, last, step, within))

last_changes : (site : Site) (before after : Facts) (count hall lab m : ℕ) → IsChain site count hall lab → ChangesZone site before after lab
    → suc m ≡ count → DependsOnChanged site before after m
last_changes site before after count hall lab zero chain changes e = let long = chain.long in absurd (omega (arith, e, long))
last_changes site before after count hall lab (suc m) chain changes e =
    directly (suc m)
    (changed_terms site before after lab (suc m) (chain_terms count hall lab (suc m)) changes (chain.terms (suc m) (omega (arith, e))) ∙ has
    (suc (suc m) == count) (equal e))
  where
    equal : suc (suc m) ≡ count → (suc (suc m) == count) ≡ true
    equal e = subst (λ n. (suc (suc m) == n) ≡ true) e (equal_number (suc (suc m)))

    has : (b : Bool) → b ≡ true → list_any (is_zone lab) (if b then ZoneTerm lab ∷ [] else []) ≡ true
    has true e = ap (λ b. b || false) (equal_number lab)
    has false e = cc e

pub last_of_chain : (site : Site) (before after : Facts) (count hall lab : ℕ) → IsChain site count hall lab → ChangesZone site before after lab
    → IsNumberOf (DependsOnChanged site before after) 1
unfolding IsDistinct
last_of_chain site before after count hall lab chain changes = record {
  members = (count - 1) ∷ [];
  once = (tt, tt);
  all = λ m d. ap (λ b. b || false) (subst (λ n. (m == n) ≡ true) (less_one m (only_last site before after count hall lab chain changes m d)) (equal_number m));
  only =
      λ m h. last_changes site before after count hall lab m chain changes (one_more m (number_is m (count - 1) (last_of_or (m == (count - 1)) h)));
  counted = refl;
}
  where
    less_one : (m : ℕ) → suc m ≡ count → m ≡ count - 1
    less_one m e = omega (arith, e)

    one_more : (m : ℕ) → m ≡ count - 1 → suc m ≡ count
    one_more m e = let long = chain.long in omega (arith, e, long)
