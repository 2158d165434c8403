-- The places in the order that are marked are those of the markers that depend on a fact that changed.
use Rattle.std.proofs.Common.{◌≡◌, ◌≢◌, ◌≤◌, ◌<◌, ◌%◌, ◌^◌, mod-lt, ◌==◌, ◌+◌, ◌*◌, ◌-◌, ◌&&◌, ◌||◌, ◌⊎◌, inl, inr}
use Rattle.std.proofs.Common.{ℕ, zero, suc, Bool, true, false, List, Option, Some, None, refl, sym, ap, subst, ◌∙◌, arith}
use Rattle.std.specs.Prelude.{slice_get, slice_index_or}
use mir.Val.{bits}
use Rattle.std.specs.Int.{bit_at, bit_not, trailing_zeros, w32}
use Rattle.std.proofs.lemmas.Nat.{and_le_l}
use Rattle.std.specs.Int.Bits.{bit_xor}
use Rattle.std.specs.List.{list_any}
use Rattle.std.proofs.lemmas.Bool.Decides.{eqb_tells}
use Rattle.std.proofs.lemmas.Nat.Bits.{bit_at-trailing_zeros, bit_at_xor}
use Rattle.site_types.proofs.Masks.{has_bit-zero}
use Rattle.std.proofs.lemmas.Bool.{cases_lt}
use Rattle.site_types.specs.Bits.{any_below, has_bit, with_bit}
use Rattle.site_types.specs.Valid.{IsValid, IsTerm}
use Rattle.site_types.specs.declared.site.Site.{Site}
use Rattle.site_types.specs.declared.zone.Zone.{Zone}
use Rattle.site_types.specs.declared.marker.Marker.{Marker}
use Rattle.site_types.specs.declared.term.Term.{Term}
use Rattle.site_types.specs.declared.term.Term.TheVariants.{Zone as ZoneTerm, Manual as ManualTerm, Fault as FaultTerm, Marker as MarkerTerm}
use Rattle.site_types.proofs.ValidSites.{zone_numbers, term_of_marker}
use Rattle.marker_table.specs.declared.facts.Facts.{Facts}
use Rattle.marker_table.specs.declared.values.Values.{Values}
use Rattle.marker_table.specs.Equations.{zone_bit}
use Rattle.marker_table.specs.Table.{zone_index, input_of}
use Rattle.marker_table.proofs.Rows.{item_at}
use Rattle.cause_effect.specs.Changes.{differ, is_changed, directly}
use Rattle.cause_effect.specs.Cycles.{terms_of}
use Rattle.cause_effect.specs.Orders.{IsOrder}
use Rattle.cause_effect.specs.Users.{place_of, looks_at, is_user, uses, uses_bit, uses_word, AreMarksOfChange, AreUsersFrom, AreUsersOf, ComesTo}
use Rattle.cause_effect.proofs.Below.{changed_user, comes_to_change, in_order}
use Rattle.cause_effect.proofs.Changing.{depends_within}
use Rattle.cause_effect.proofs.Truths.{and_first, and_second, any_at, equal_number, number_is, one_passes, or_left, or_right, same_bool}
use Rattle.cause_effect.proofs.Using.{or_more}

-- a zone of a panel, or its call points, differ and have the marker among their users
abbrev pub uses_panel : List Values → Facts → Facts → ℕ → ℕ → Bool
uses_panel sets before after m panel =
    uses_word sets (32 * panel) (slice_index_or before.zones panel 0) (slice_index_or after.zones panel 0) m ||
    uses_word sets (256 + 32 * panel) (slice_index_or before.manual panel 0) (slice_index_or after.manual panel 0) m

-- ---- a test below a number

pub record Found (n : ℕ) (test : ℕ → Bool) : Type 0 where
  pub number : ℕ
  pub below : number < n
  pub passes : test number ≡ true

found_more : (n : ℕ) (test : ℕ → Bool) → Found n test → Found (suc n) test
found_more n test w = let less = w.below in record { number = w.number; below = omega (arith, less); passes = w.passes }

found_next : (n : ℕ) (test : ℕ → Bool) (a b : Bool) → test n ≡ b → (a ≡ true → Found n test) → (a || b) ≡ true → Found (suc n) test
found_next n test true b e earlier h = found_more n test (earlier refl)
found_next n test false true e earlier h = record { number = n; below = omega arith; passes = e }
found_next n test false false e earlier h = cc

some_below : (n : ℕ) (test : ℕ → Bool) → any_below n test ≡ true → Found n test
unfolding any_below
some_below zero test h = cc
some_below (suc n) test h = found_next n test (any_below n test) (test n) refl (λ e. some_below n test e) h

below_some : (n : ℕ) (test : ℕ → Bool) (k : ℕ) → k < n → test k ≡ true → any_below n test ≡ true
unfolding any_below
below_some zero test k less h = absurd (omega (arith, less))
below_some (suc n) test k less h = elim (cases_lt k n) [
  | inl before ↦ or_left (any_below n test) (test n) (below_some n test k before h)
  | inr last ↦ or_right (any_below n test) (test n) (let same : k ≡ n = omega (arith, less, last) in subst (λ i. test i ≡ true) same h)
]

pub below_none : (test : ℕ → Bool) → any_below 0 test ≡ false
unfolding any_below
below_none test = refl

none_below : (n : ℕ) (test : ℕ → Bool) → ((k : ℕ) → test k ≡ false) → any_below n test ≡ false
unfolding any_below
none_below zero test h = refl
none_below (suc n) test h = rw (none_below n test h) (h n)

pub below_next : (n : ℕ) (test : ℕ → Bool) → any_below (n + 1) test ≡ (any_below n test || test n)
unfolding any_below
below_next n test = ap (λ k. any_below k test) (next n)
  where
    next : (n : ℕ) → n + 1 ≡ suc n
    next n = omega arith

both : (a b : Bool) → a ≡ true → b ≡ true → (a && b) ≡ true
both true b p q = q
both false b p q = cc

or_cases : (a b : Bool) → (a || b) ≡ true → (a ≡ true) ⊎ (b ≡ true)
or_cases true b h = inl refl
or_cases false b h = inr h

-- ---- the term that looks at a place

-- a panel less one and a number less one, from the place that they make
parts : (p bit panel number : ℕ) → bit < 32 → 1 ≤ number → number ≤ 32 → 32 * p + bit ≡ 32 * (panel - 1) + (number - 1)
    → (p ≡ panel - 1) × (bit ≡ number - 1)
parts p bit panel number less one most e = (omega arith, omega arith)

-- a mask of the zones differs in the bit of a zone
mask_differs : (before after : List ℕ) (found : Option Zone) (z : Zone) (p bit : ℕ) → found ≡ Some z → (p ≡ z.panel - 1) × (bit ≡ z.number - 1) →
    differ (has_bit (slice_index_or before p 0) bit) (has_bit (slice_index_or after p 0) bit) ≡ true
    → differ (zone_bit before found) (zone_bit after found) ≡ true
mask_differs before after found z p bit at same h = rw (at, ← same.0, ← same.1) h

zone_changed : (site : Site) → IsValid site → (before after : Facts) (p bit : ℕ) (term : Term) → IsTerm site term → p < 8 → bit < 32
    → 32 * p + bit ≡ place_of (input_of site term) →
    differ (has_bit (slice_index_or before.zones p 0) bit) (has_bit (slice_index_or after.zones p 0) bit) ≡ true
    → is_changed site before after term ≡ true
zone_changed site valid before after p bit (ZoneTerm place) is few less e h =
    let at = item_at site.zones place is in
    let n = zone_numbers site valid place at.0 at.1 in
    mask_differs before.zones after.zones (slice_get site.zones place) at.0 p bit at.1
    (parts p bit at.0.panel at.0.number less n.2 n.3 (e ∙ ap zone_index at.1)) h
zone_changed site valid before after p bit (ManualTerm place) is few less e h = absurd (omega (arith, few, less, e))
zone_changed site valid before after p bit (FaultTerm panel) is few less e h = absurd (omega (arith, few, less, e))
zone_changed site valid before after p bit (MarkerTerm other) is few less e h = absurd (omega (arith, few, less, e))

manual_changed : (site : Site) → IsValid site → (before after : Facts) (p bit : ℕ) (term : Term) → IsTerm site term → p < 8 → bit < 32
    → (256 + 32 * p) + bit ≡ place_of (input_of site term) →
    differ (has_bit (slice_index_or before.manual p 0) bit) (has_bit (slice_index_or after.manual p 0) bit) ≡ true
    → is_changed site before after term ≡ true
manual_changed site valid before after p bit (ZoneTerm place) is few less e h =
    let at = item_at site.zones place is in
    let n = zone_numbers site valid place at.0 at.1 in
    let f : (256 + 32 * p) + bit ≡ 32 * (at.0.panel - 1) + (at.0.number - 1) = e ∙ ap zone_index at.1 in
    absurd (omega (arith, f, n))
manual_changed site valid before after p bit (ManualTerm place) is few less e h =
    let at = item_at site.zones place is in
    let n = zone_numbers site valid place at.0 at.1 in
    let f : (256 + 32 * p) + bit ≡ 256 + (32 * (at.0.panel - 1) + (at.0.number - 1)) = e ∙ ap (λ (o : Option Zone). 256 + zone_index o) at.1 in
    mask_differs before.manual after.manual (slice_get site.zones place) at.0 p bit at.1
    (parts p bit at.0.panel at.0.number less n.2 n.3 (omega (arith, f))) h
manual_changed site valid before after p bit (FaultTerm panel) is few less e h = absurd (omega (arith, few, less, e))
manual_changed site valid before after p bit (MarkerTerm other) is few less e h = absurd (omega (arith, few, less, e))

fault_changed : (site : Site) → IsValid site → (before after : Facts) (bit : ℕ) (term : Term) → IsTerm site term
    → 768 + bit ≡ place_of (input_of site term) →
    differ (has_bit before.faults bit) (has_bit after.faults bit) ≡ true → is_changed site before after term ≡ true
fault_changed site valid before after bit (ZoneTerm place) is e h =
    let at = item_at site.zones place is in
    let n = zone_numbers site valid place at.0 at.1 in
    let f : 768 + bit ≡ 32 * (at.0.panel - 1) + (at.0.number - 1) = e ∙ ap zone_index at.1 in
    absurd (omega (arith, f, n))
fault_changed site valid before after bit (ManualTerm place) is e h =
    let at = item_at site.zones place is in
    let n = zone_numbers site valid place at.0 at.1 in
    let f : 768 + bit ≡ 256 + (32 * (at.0.panel - 1) + (at.0.number - 1)) = e ∙ ap (λ (o : Option Zone). 256 + zone_index o) at.1 in
    absurd (omega (arith, f, n))
fault_changed site valid before after bit (FaultTerm panel) is e h =
    let same : bit ≡ panel - 1 = omega (arith, e) in
    subst (λ n. differ (has_bit before.faults n) (has_bit after.faults n) ≡ true) same h
fault_changed site valid before after bit (MarkerTerm other) is e h = let few = valid.forms.few_markers in absurd (omega (arith, few, is, e))

-- ---- from the marks to the terms

-- a marker that has what is at a place as a term has a term that looks at it; what holds of each such term holds of
-- one of its terms
user_term : (site : Site) → IsValid site → (place m : ℕ) (test : Term → Bool) → uses site m place ≡ true →
    ((term : Term) → IsTerm site term → place ≡ place_of (input_of site term) → test term ≡ true)
    → list_any test (terms_of (slice_get site.markers m)) ≡ true
user_term site valid place m test looks every = of_marker (slice_get site.markers m) refl looks
  where
    of_marker : (marker : Option Marker) → slice_get site.markers m ≡ marker → list_any (looks_at site place) (terms_of marker) ≡ true
        → list_any test (terms_of marker) ≡ true
    of_marker None at h = cc
    of_marker (Some marker) at h =
        let w = one_passes (looks_at site place) marker.terms h in
        any_at test marker.terms w.place w.item w.at
        (every w.item (term_of_marker site valid m marker w.place w.item at w.at) (number_is place (place_of (input_of site w.item)) w.passes))

-- a place of the order is among the users of all that a marker has as a term
abbrev pub HasPlaceOf : Site → List Values → ℕ → ℕ → Type 0
HasPlaceOf site sets m k = (place : ℕ) → uses site m place ≡ true → is_user sets place k ≡ true

-- ---- from the terms to the marks

-- all marks that are set at first
abbrev pub uses_facts : List Values → Facts → Facts → ℕ → Bool
uses_facts sets before after m = any_below 8 (uses_panel sets before after m) || uses_word sets 768 before.faults after.faults m

user_bit : (site : Site) (sets : List Values) (first before after m k bit i : ℕ) (term : Term) → HasPlaceOf site sets m k → bit < 32
    → slice_get (terms_of (slice_get site.markers m)) i ≡ Some term →
    first + bit ≡ place_of (input_of site term) → differ (has_bit before bit) (has_bit after bit) ≡ true → uses_word sets first before after k ≡ true
user_bit site sets first before after m k bit i term users less at place h =
    below_some 32 (uses_bit sets first before after k) bit less
    (both (differ (has_bit before bit) (has_bit after bit)) (is_user sets (first + bit) k) h
    (users (first + bit) (any_at (looks_at site (first + bit)) (terms_of (slice_get site.markers m)) i term at
    (subst (λ n. ((first + bit) == n) ≡ true) place (equal_number (first + bit))))))

panel_marks : (sets : List Values) (before after : Facts) (m panel : ℕ) → panel < 8 → uses_panel sets before after m panel ≡ true
    → uses_facts sets before after m ≡ true
panel_marks sets before after m panel less h =
    or_left (any_below 8 (uses_panel sets before after m)) (uses_word sets 768 before.faults after.faults m)
    (below_some 8 (uses_panel sets before after m) panel less h)

-- the masks differ in the bit of a zone
zone_differs : (before after : List ℕ) (found : Option Zone) (z : Zone) → found ≡ Some z
    → differ (zone_bit before found) (zone_bit after found) ≡ true →
    differ (has_bit (slice_index_or before (z.panel - 1) 0) (z.number - 1)) (has_bit (slice_index_or after (z.panel - 1) 0) (z.number - 1)) ≡ true
zone_differs before after found z at h = subst (λ (o : Option Zone). differ (zone_bit before o) (zone_bit after o) ≡ true) at h

changed_marks : (site : Site) → IsValid site → (sets : List Values) (before after : Facts) (m k i : ℕ) (term : Term) → HasPlaceOf site sets m k
    → IsTerm site term →
    slice_get (terms_of (slice_get site.markers m)) i ≡ Some term → is_changed site before after term ≡ true → uses_facts sets before after k ≡ true
changed_marks site valid sets before after m k i (ZoneTerm place) users is at h =
    let zone = item_at site.zones place is in
    let n = zone_numbers site valid place zone.0 zone.1 in
    let p = zone.0.panel - 1 in
    panel_marks sets before after k p (omega (arith, n))
    (or_left (uses_word sets (32 * p) (slice_index_or before.zones p 0) (slice_index_or after.zones p 0) k) _
    (user_bit site sets (32 * p) (slice_index_or before.zones p 0) (slice_index_or after.zones p 0) m k (zone.0.number - 1) i (ZoneTerm place) users
    (omega (arith, n)) at
    (sym (ap zone_index zone.1)) (zone_differs before.zones after.zones (slice_get site.zones place) zone.0 zone.1 h)))
changed_marks site valid sets before after m k i (ManualTerm place) users is at h =
    let zone = item_at site.zones place is in
    let n = zone_numbers site valid place zone.0 zone.1 in
    let p = zone.0.panel - 1 in
    panel_marks sets before after k p (omega (arith, n))
    (or_right _ (uses_word sets (256 + 32 * p) (slice_index_or before.manual p 0) (slice_index_or after.manual p 0) k)
    (user_bit site sets (256 + 32 * p) (slice_index_or before.manual p 0) (slice_index_or after.manual p 0) m k (zone.0.number - 1) i
    (ManualTerm place) users (omega (arith, n)) at
    (moved p (zone.0.number - 1) ∙ sym (ap (λ (o : Option Zone). 256 + zone_index o) zone.1))
    (zone_differs before.manual after.manual (slice_get site.zones place) zone.0 zone.1 h)))
  where
    moved : (p n : ℕ) → (256 + 32 * p) + n ≡ 256 + (32 * p + n)
    moved p n = omega arith
changed_marks site valid sets before after m k i (FaultTerm panel) users is at h =
    let most = valid.forms.panels.1 in
    or_right (any_below 8 (uses_panel sets before after k)) (uses_word sets 768 before.faults after.faults k)
    (user_bit site sets 768 before.faults after.faults m k (panel - 1) i (FaultTerm panel) users (omega (arith, is, most)) at refl h)
changed_marks site valid sets before after m k i (MarkerTerm other) users is at h = cc

-- ---- both ways

-- a marker at a place of the order that is, or depends on, one of whose terms one passes a test
record PassesBelow (site : Site) (order : List ℕ) (test : Term → Bool) (k : ℕ) : Type 0 where
  user : ℕ
  passes : list_any test (terms_of (slice_get site.markers user)) ≡ true
  marker : ℕ
  at : slice_get order k ≡ Some marker
  comes : ComesTo site marker user

bit_of_word : (site : Site) → IsValid site → (order : List ℕ) (sets : List Values) (first before after k : ℕ) (test : Term → Bool)
    → AreUsersFrom site order 0 sets →
    ((bit : ℕ) (term : Term) → bit < 32 → IsTerm site term → first + bit ≡ place_of (input_of site term)
    → differ (has_bit before bit) (has_bit after bit) ≡ true → test term ≡ true) →
    uses_word sets first before after k ≡ true → PassesBelow site order test k
bit_of_word site valid order sets first before after k test users every h =
    let w = some_below 32 (uses_bit sets first before after k) h in
    let differs = and_first (differ (has_bit before w.number) (has_bit after w.number)) (is_user sets (first + w.number) k) w.passes in
    let below = users.only (first + w.number) k
    (and_second (differ (has_bit before w.number) (has_bit after w.number)) (is_user sets (first + w.number) k) w.passes) in
    record {
      user = below.user;
      passes = user_term site valid (first + w.number) below.user test below.looks (λ term is place. every w.number term w.below is place differs);
      marker = below.marker;
      at = below.at;
      comes = below.comes;
    }

panel_changed : (site : Site) → IsValid site → (order : List ℕ) (sets : List Values) (before after : Facts) (k panel : ℕ)
    → AreUsersFrom site order 0 sets → panel < 8
    → uses_panel sets before after k panel ≡ true →
    PassesBelow site order (is_changed site before after) k
panel_changed site valid order sets before after k panel users less h = elim (or_cases
    (uses_word sets (32 * panel) (slice_index_or before.zones panel 0) (slice_index_or after.zones panel 0) k)
    (uses_word sets (256 + 32 * panel) (slice_index_or before.manual panel 0) (slice_index_or after.manual panel 0) k) h) [
      | inl zones ↦ bit_of_word site valid order sets (32 * panel) (slice_index_or before.zones panel 0) (slice_index_or after.zones panel 0) k
          (is_changed site before after) users
          (λ bit term small is place. zone_changed site valid before after panel bit term is less small place) zones
      | inr manual ↦ bit_of_word site valid order sets (256 + 32 * panel) (slice_index_or before.manual panel 0) (slice_index_or after.manual panel 0) k
          (is_changed site before after) users
          (λ bit term small is place. manual_changed site valid before after panel bit term is less small place) manual
    ]

facts_changed : (site : Site) → IsValid site → (order : List ℕ) (sets : List Values) (before after : Facts) (k : ℕ) → AreUsersFrom site order 0 sets
    → uses_facts sets before after k ≡ true →
    PassesBelow site order (is_changed site before after) k
facts_changed site valid order sets before after k users h =
    elim (or_cases (any_below 8 (uses_panel sets before after k)) (uses_word sets 768 before.faults after.faults k) h) [
      | inl panels ↦ (let w = some_below 8 (uses_panel sets before after k) panels in
          panel_changed site valid order sets before after k w.number users w.below w.passes)
      | inr faults ↦ bit_of_word site valid order sets 768 before.faults after.faults k (is_changed site before after) users
          (λ bit term small is place. fault_changed site valid before after bit term is place) faults
    ]

changed_facts : (site : Site) → IsValid site → (sets : List Values) (before after : Facts) (m k : ℕ) → HasPlaceOf site sets m k
    → (marker : Option Marker) → slice_get site.markers m ≡ marker →
    list_any (is_changed site before after) (terms_of marker) ≡ true → uses_facts sets before after k ≡ true
changed_facts site valid sets before after m k users None at h = cc
changed_facts site valid sets before after m k users (Some marker) at h =
    let w = one_passes (is_changed site before after) marker.terms h in
    changed_marks site valid sets before after m k w.place w.item users (term_of_marker site valid m marker w.place w.item at w.at)
    (ap (λ (o : Option Marker). slice_get (terms_of o) w.place) at ∙ w.at) w.passes

-- the places that are marked are those of the markers that depend on a fact that changed
pub facts_mark : (site : Site) → IsValid site → (order : List ℕ) → IsOrder site order → (sets : List Values) (before after : Facts) (marks : ℕ → Bool)
    → AreUsersOf site order sets → ((k : ℕ) → marks k ≡ uses_facts sets before after k) → AreMarksOfChange site before after order marks
facts_mark site valid order is sets before after marks users same = record {
  all = λ k m at depends.
      let w = changed_user site before after m depends in
      let stands = in_order site order is w.user (depends_within site before after w.user (directly w.user w.changed)) in
      same k ∙ changed_facts site valid sets before after w.user k
      (λ place looks. users.users.all place k (record {
        first = stands.place;
        late = omega arith;
        user = w.user;
        stands = stands.at;
        looks = looks;
        marker = m;
        at = at;
        comes = w.comes;
      })) (slice_get site.markers w.user) refl w.changed;
  only = λ k h.
      let w = facts_changed site valid order sets before after k users.users (sym (same k) ∙ h) in
      record { marker = w.marker; at = w.at; depends = comes_to_change site before after w.marker w.user w.comes (directly w.user w.passes) };
}

-- ---- one panel more

pub panel_more : (sets : List Values) (before after : Facts) (m panel : ℕ) (start zones manual : Bool)
    → start ≡ any_below panel (uses_panel sets before after m) →
    zones ≡ (start || uses_word sets (32 * panel) (slice_index_or before.zones panel 0) (slice_index_or after.zones panel 0) m) →
    manual ≡ (zones || uses_word sets (256 + 32 * panel) (slice_index_or before.manual panel 0) (slice_index_or after.manual panel 0) m) →
    manual ≡ any_below (panel + 1) (uses_panel sets before after m)
panel_more sets before after m panel start zones manual first second third =
    together start zones manual _ _ _ first second third ∙ sym (below_next panel (uses_panel sets before after m))
  where
    together : (s z m a b c : Bool) → s ≡ a → z ≡ (s || b) → m ≡ (z || c) → m ≡ (a || (b || c))
    together true z m true b c e f g = g ∙ ap (λ x. x || c) f
    together false z m false b c e f g = g ∙ ap (λ x. x || c) f
    together true z m false b c e f g = cc
    together false z m true b c e f g = cc

-- ---- the bits of a word that are left

-- a bit that is left has the marker among its users, the first bit's being at this place
abbrev pub left_uses : List Values → ℕ → ℕ → ℕ → ℕ → Bool
left_uses sets first left m bit = has_bit left bit && is_user sets (first + bit) m

same_below : (n : ℕ) (p q : ℕ → Bool) → ((k : ℕ) → p k ≡ q k) → any_below n p ≡ any_below n q
unfolding any_below
same_below zero p q same = refl
same_below (suc n) p q same = rw (same_below n p q same, same n) refl

odd_sum : (x y : ℕ) → x < 2 → y < 2 → ((x + y) % 2 == 1) ≡ differ (x == 1) (y == 1)
odd_sum zero zero a b = refl
odd_sum zero (suc zero) a b = refl
odd_sum (suc zero) zero a b = refl
odd_sum (suc zero) (suc zero) a b = refl
odd_sum (suc (suc x)) y a b = absurd (omega (arith, a))
odd_sum x (suc (suc y)) a b = absurd (omega (arith, b))

differing : (before after k : ℕ) → has_bit (bit_xor before after) k ≡ differ (has_bit before k) (has_bit after k)
differing before after k =
    ap (λ b. b == 1) (bit_at_xor before after k)
    ∙ odd_sum (bit_at before k) (bit_at after k) (mod-lt _ (omega arith)) (mod-lt _ (omega arith))

-- at first all that differ are left
pub all_left : (sets : List Values) (first before after m : ℕ)
    → any_below 32 (left_uses sets first (bit_xor before after) m) ≡ uses_word sets first before after m
all_left sets first before after m =
    same_below 32 (left_uses sets first (bit_xor before after) m) (uses_bit sets first before after m)
    (λ bit. ap (λ b. b && is_user sets (first + bit) m) (differing before after bit))

pub none_left : (sets : List Values) (first left m : ℕ) → left ≡ 0 → any_below 32 (left_uses sets first left m) ≡ false
none_left sets first left m none =
    none_below 32 (left_uses sets first left m)
    (λ bit. ap (λ n. has_bit n bit && is_user sets (first + bit) m) none ∙ ap (λ b. b && is_user sets (first + bit) m) (has_bit-zero bit))

-- one bit less is left
pub record IsCleared (bit left less : ℕ) : Type 0 where
  pub below : bit < 32
  pub was : has_bit left bit ≡ true
  pub this : has_bit less bit ≡ false
  pub others : (k : ℕ) → k < 32 → k ≢ bit → has_bit less k ≡ has_bit left k

one_of : (sets : List Values) (first left less m bit : ℕ) → IsCleared bit left less → Found 32 (left_uses sets first left m)
    → (is_user sets (first + bit) m || any_below 32 (left_uses sets first less m)) ≡ true
one_of sets first left less m bit cleared w = elim (eqb_tells w.number bit) [
  | inl here ↦ or_left (is_user sets (first + bit) m) (any_below 32 (left_uses sets first less m))
      (subst (λ k. is_user sets (first + k) m ≡ true) here.1 (and_second (has_bit left w.number) (is_user sets (first + w.number) m) w.passes))
  | inr apart ↦ or_right (is_user sets (first + bit) m) (any_below 32 (left_uses sets first less m))
      (below_some 32 (left_uses sets first less m) w.number w.below
      (both (has_bit less w.number) (is_user sets (first + w.number) m)
      (cleared.others w.number w.below apart.1 ∙ and_first (has_bit left w.number) (is_user sets (first + w.number) m) w.passes)
      (and_second (has_bit left w.number) (is_user sets (first + w.number) m) w.passes)))
]

still_one : (sets : List Values) (first left less m bit : ℕ) → IsCleared bit left less → Found 32 (left_uses sets first less m)
    → any_below 32 (left_uses sets first left m) ≡ true
still_one sets first left less m bit cleared w =
    let has = and_first (has_bit less w.number) (is_user sets (first + w.number) m) w.passes in
    let apart : w.number ≢ bit = λ here. clash (has_bit less bit) (subst (λ k. has_bit less k ≡ true) here has) cleared.this in
    below_some 32 (left_uses sets first left m) w.number w.below
    (both (has_bit left w.number) (is_user sets (first + w.number) m) (sym (cleared.others w.number w.below apart) ∙ has)
    (and_second (has_bit less w.number) (is_user sets (first + w.number) m) w.passes))
  where
    clash : (b : Bool) → b ≡ true → b ≡ false → ⊥
    clash b e f = cc

pub one_less : (sets : List Values) (first left less m bit : ℕ) → IsCleared bit left less
    → any_below 32 (left_uses sets first left m) ≡ (is_user sets (first + bit) m || any_below 32 (left_uses sets first less m))
one_less sets first left less m bit cleared =
    same_bool (any_below 32 (left_uses sets first left m)) (is_user sets (first + bit) m || any_below 32 (left_uses sets first less m))
    (λ h. one_of sets first left less m bit cleared (some_below 32 (left_uses sets first left m) h))
    (λ h. elim (or_cases (is_user sets (first + bit) m) (any_below 32 (left_uses sets first less m)) h) [
      | inl here ↦ below_some 32 (left_uses sets first left m) bit cleared.below
          (both (has_bit left bit) (is_user sets (first + bit) m) cleared.was here)
      | inr rest ↦ still_one sets first left less m bit cleared (some_below 32 (left_uses sets first less m) rest)
    ])

-- the mark of a bit's users, and what is left without it
pub bit_less : (sets : List Values) (first left less m bit : ℕ) (all old more : Bool) → IsCleared bit left less
    → (old || any_below 32 (left_uses sets first left m)) ≡ all → more ≡ (old || is_user sets (first + bit) m)
    → (more || any_below 32 (left_uses sets first less m)) ≡ all
bit_less sets first left less m bit all old more cleared known marked =
    ap (λ b. b || any_below 32 (left_uses sets first less m)) marked
    ∙ or_more old (is_user sets (first + bit) m) (any_below 32 (left_uses sets first less m))
    ∙ ap (λ b. old || b) (sym (one_less sets first left less m bit cleared)) ∙ known

-- the lowest bit is one that is left
lowest_is_left : (left : ℕ) → left ≢ 0 → left < 2 ^ 32 → (trailing_zeros w32 left < 32) × (has_bit left (trailing_zeros w32 left) ≡ true)
lowest_is_left left some fits =
    let at = bit_at-trailing_zeros w32 left (let e : left ≢ 0 = some in omega (arith, e)) fits in
    (at.0, ap (λ b. b == 1) at.1)

cleared_less : (bit left less : ℕ) → IsCleared bit left less → less ≡ with_bit w32 left bit false → less < left
cleared_less bit left less cleared is =
    let low : less ≤ left = subst (λ n. n ≤ left) (sym is) (and_le_l left (bit_not w32 (1 * 2 ^ bit % 2 ^ bits w32))) in
    let apart : less ≢ left = λ same. clash (has_bit less bit) (ap (λ n. has_bit n bit) same ∙ cleared.was) cleared.this in
    omega (arith, low, apart)
  where
    clash : (b : Bool) → b ≡ true → b ≡ false → ⊥
    clash b e f = cc

-- the lowest bit that is left, once it is cleared
pub lowest_cleared : (left less : ℕ) → left ≢ 0 → left < 2 ^ 32 → has_bit less (trailing_zeros w32 left) ≡ false
    → ((k : ℕ) → k < 32 → k ≢ trailing_zeros w32 left → has_bit less k ≡ has_bit left k) → IsCleared (trailing_zeros w32 left) left less
lowest_cleared left less some fits this others =
    let at = lowest_is_left left some fits in
    record { below = at.0; was = at.1; this = this; others = others }

pub lowest_less : (left less : ℕ) → left ≢ 0 → left < 2 ^ 32 → has_bit less (trailing_zeros w32 left) ≡ false
    → ((k : ℕ) → k < 32 → k ≢ trailing_zeros w32 left → has_bit less k ≡ has_bit left k)
    → less ≡ with_bit w32 left (trailing_zeros w32 left) false → less < left
lowest_less left less some fits this others is =
    cleared_less (trailing_zeros w32 left) left less (lowest_cleared left less some fits this others) is
