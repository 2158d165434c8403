-- Which places of the order have markers that depend on a fact or a marker, from the last place on.
use Rattle.std.proofs.Common.{◌≡◌, ◌≤◌, ◌<◌, ◌==◌, ◌+◌, ◌&&◌, ◌||◌, inl, inr, ℕ, true, false, List, Some, length, get_or}
use Rattle.std.proofs.Common.{refl, sym, ap, subst, ◌∙◌, arith}
use Rattle.std.specs.Prelude.{slice_get}
use Rattle.std.specs.List.{IsDistinct}
use Rattle.std.proofs.lemmas.Bool.{cases_lt}
use Rattle.std.proofs.lemmas.Map.Steps.{length-le_from_distinct_below}
use Rattle.std.proofs.lemmas.Option.{get_or_from_slice_get, slice_get_within}
use Rattle.site_types.specs.Valid.{IsValid}
use Rattle.site_types.specs.declared.site.Site.{Site}
use Rattle.marker_table.specs.declared.facts.Facts.{Facts}
use Rattle.marker_table.specs.declared.values.Values.{Values}
use Rattle.cause_effect.specs.Changes.{has_changed, DependsOnChanged, directly, through}
use Rattle.cause_effect.specs.Cycles.{has_term, is_among, Depends, directly as leads, through as leads_on}
use Rattle.cause_effect.specs.Orders.{IsOrder}
use Rattle.cause_effect.specs.Users.{AreUsersFrom, ComesTo, IsBelow, is_user, joins, uses}
use Rattle.cause_effect.proofs.Changing.{fresh_next, or_cases}
use Rattle.cause_effect.proofs.Depths.{and_on}
use Rattle.cause_effect.proofs.Equations.{has_within}
use Rattle.cause_effect.proofs.Orders.{StandsBefore, among_front, stands, take_whole}
use Rattle.cause_effect.proofs.Truths.{and_first, and_second, both, equal_number, number_is, or_left, or_right}
use Rattle.cause_effect.proofs.Using.{uses_marker}

-- ---- places of an order

-- each marker of the site has a place
pub in_order : (site : Site) (order : List ℕ) → IsOrder site order → (m : ℕ) → m < length site.markers → StandsBefore m (length order) order
in_order site order is m within = stands m (length order) order (ap (is_among m) (take_whole order) ∙ is.whole m within)

not_before : (order : List ℕ) (i j x : ℕ) → IsDistinct (λ a b. a == b) order → slice_get order i ≡ Some x → slice_get order j ≡ Some x → i < j → ⊥
not_before order i j x once first second less =
    let front = among_front x j order (record { place = i; before = less; at = first }) in
    let fresh = fresh_next order j x once second in
    cc (front, fresh)

-- and no other
pub only_place : (order : List ℕ) (i j x : ℕ) → IsDistinct (λ a b. a == b) order → slice_get order i ≡ Some x → slice_get order j ≡ Some x → i ≡ j
only_place order i j x once first second = elim (cases_lt i j) [
  | inl less ↦ absurd (not_before order i j x once first second less)
  | inr more ↦ elim (cases_lt j i) [
    | inl less ↦ absurd (not_before order j i x once second first less)
    | inr same ↦ omega (arith, more, same)
  ]
]

-- an order of numbers of a byte
pub order_fits : (site : Site) (order : List ℕ) → IsOrder site order → ((k : ℕ) → get_or order k 0 < 256) → length order ≤ 256
order_fits site order is every = length-le_from_distinct_below order 256 is.once (λ q h.
    let w = stands q (length order) order (ap (is_among q) (take_whole order) ∙ h) in
    subst (λ n. n < 256) (get_or_from_slice_get order w.place q 0 w.at) (every w.place))

-- ---- dependence

further : (site : Site) (m next user : ℕ) → has_term site m next ≡ true → ComesTo site next user → Depends site m user
further site m next user term (inl same) = leads m user (subst (λ n. has_term site m n ≡ true) same term)
further site m next user term (inr depends) = leads_on m next user term depends

and_to : (site : Site) (m user other : ℕ) → ComesTo site m user → has_term site user other ≡ true → Depends site m other
and_to site m user other (inl same) term = leads m other (subst (λ n. has_term site n other ≡ true) (sym same) term)
and_to site m user other (inr depends) term = and_on site m user other depends term

-- what depends on a marker depends on it through one that has it as a term
record LastStep (site : Site) (m other : ℕ) : Type 0 where
  user : ℕ
  term : has_term site user other ≡ true
  comes : ComesTo site m user

last_step : (site : Site) (m other : ℕ) → Depends site m other → LastStep site m other
last_step site m other (leads a b term) = record { user = a; term = term; comes = inl refl }
last_step site m other (leads_on a next b term d) =
    let w = last_step site next b d in
    record { user = w.user; term = w.term; comes = inr (further site a next w.user term w.comes) }

-- what depends on a change depends on a marker that has a fact as a term that changed, or is one
pub record ChangedUser (site : Site) (before after : Facts) (m : ℕ) : Type 0 where
  pub user : ℕ
  pub changed : has_changed site before after user ≡ true
  pub comes : ComesTo site m user

pub changed_user : (site : Site) (before after : Facts) (m : ℕ) → DependsOnChanged site before after m → ChangedUser site before after m
changed_user site before after m (directly n h) = record { user = n; changed = h; comes = inl refl }
changed_user site before after m (through n next term d) =
    let w = changed_user site before after next d in
    record { user = w.user; changed = w.changed; comes = inr (further site n next w.user term w.comes) }

depends_to_change : (site : Site) (before after : Facts) (m user : ℕ) → Depends site m user → DependsOnChanged site before after user
    → DependsOnChanged site before after m
depends_to_change site before after m user (leads a b term) d = through a b term d
depends_to_change site before after m user (leads_on a next b term l) d = through a next term (depends_to_change site before after next b l d)

pub comes_to_change : (site : Site) (before after : Facts) (m user : ℕ) → ComesTo site m user → DependsOnChanged site before after user
    → DependsOnChanged site before after m
comes_to_change site before after m user (inl same) d = subst (DependsOnChanged site before after) (sym same) d
comes_to_change site before after m user (inr depends) d = depends_to_change site before after m user depends d

-- ---- one marker more, from the last on

pub none_from : (site : Site) (order : List ℕ) (sets : List Values) → ((place k : ℕ) → is_user sets place k ≡ false)
    → AreUsersFrom site order (length order) sets
none_from site order sets none = record {
  all = λ place k b. let less = slice_get_within order b.first b.user b.stands in let late = b.late in absurd (omega (arith, less, late));
  only = λ place k h. let e = none place k in cc (h, e);
}

-- what is below a place is so for every number that the first marker comes no earlier than
counted_from : (site : Site) (order : List ℕ) (from other place k : ℕ) (b : IsBelow site order from place k) → other ≤ b.first
    → IsBelow site order other place k
counted_from site order from other place k b late = record {
  first = b.first;
  late = late;
  user = b.user;
  stands = b.stands;
  looks = b.looks;
  marker = b.marker;
  at = b.at;
  comes = b.comes;
}

the_same : (x y : ℕ) → Some x ≡ Some y → x ≡ y
the_same x y e = cc

-- the marker itself and what depends on it are put to its terms
own_has : (site : Site) → IsValid site → (order : List ℕ) → IsOrder site order → (n x k marker : ℕ) (sets : List Values) → x < 256
    → slice_get order n ≡ Some x → AreUsersFrom site order (n + 1) sets → slice_get order k ≡ Some marker → ComesTo site marker x
    → joins sets x n k ≡ true
own_has site valid order is n x k marker sets small here w at (inl same) =
    let e : k ≡ n = only_place order k n x is.once (at ∙ ap Some same) here in
    or_right (is_user sets (512 + x) k) (k == n) (subst (λ i. (k == i) ≡ true) e (equal_number k))
own_has site valid order is n x k marker sets small here w at (inr depends) =
    let s = last_step site marker x depends in
    let place = in_order site order is s.user (has_within site s.user x s.term) in
    let front = stands x place.place order (is.rising place.place s.user x place.at s.term) in
    let same : front.place ≡ n = only_place order front.place n x is.once front.at here in
    let before = front.before in
    or_left (is_user sets (512 + x) k) (k == n) (w.all (512 + x) k (record {
      first = place.place;
      late = omega (arith, same, before);
      user = s.user;
      stands = place.at;
      looks = uses_marker site valid x s.user small ∙ s.term;
      marker = marker;
      at = at;
      comes = s.comes;
    }))

pub users_more : (site : Site) → IsValid site → (order : List ℕ) → IsOrder site order → (n x : ℕ) (sets more : List Values) → x < 256
    → slice_get order n ≡ Some x → AreUsersFrom site order (n + 1) sets
    → ((place k : ℕ) → is_user more place k ≡ (is_user sets place k || (joins sets x n k && uses site x place)))
    → AreUsersFrom site order n more
users_more site valid order is n x sets more small here w same = record {
  all = λ place k b. same place k ∙ has place k b;
  only = λ place k h. elim (or_cases (is_user sets place k) (joins sets x n k && uses site x place) (sym (same place k) ∙ h)) [
    | inl known ↦ (let b = w.only place k known in let late = b.late in counted_from site order (n + 1) n place k b (omega (arith, late)))
    | inr put ↦ added place k (and_first (joins sets x n k) (uses site x place) put) (and_second (joins sets x n k) (uses site x place) put)
  ];
}
  where
    added : (place k : ℕ) → joins sets x n k ≡ true → uses site x place ≡ true → IsBelow site order n place k
    added place k own looks = elim (or_cases (is_user sets (512 + x) k) (k == n) own) [
      | inl user ↦ (let b = w.only (512 + x) k user in record {
        first = n;
        late = omega arith;
        user = x;
        stands = here;
        looks = looks;
        marker = b.marker;
        at = b.at;
        comes = inr (and_to site b.marker b.user x b.comes (sym (uses_marker site valid x b.user small) ∙ b.looks));
      })
      | inr itself ↦ record {
        first = n;
        late = omega arith;
        user = x;
        stands = here;
        looks = looks;
        marker = x;
        at = subst (λ i. slice_get order i ≡ Some x) (sym (number_is k n itself)) here;
        comes = inl refl;
      }
    ]

    has : (place k : ℕ) → IsBelow site order n place k → (is_user sets place k || (joins sets x n k && uses site x place)) ≡ true
    has place k b = elim (cases_lt n b.first) [
      | inl later ↦ or_left (is_user sets place k) (joins sets x n k && uses site x place)
          (w.all place k (counted_from site order n (n + 1) place k b (omega (arith, later))))
      | inr most ↦ (
          let late = b.late in
          let e : b.first ≡ n = omega (arith, late, most) in
          let user : b.user ≡ x = the_same b.user x (sym b.stands ∙ (ap (slice_get order) e ∙ here)) in
          or_right (is_user sets place k) (joins sets x n k && uses site x place)
          (both (joins sets x n k) (uses site x place)
          (own_has site valid order is n x k b.marker sets small here w b.at (subst (ComesTo site b.marker) user b.comes))
          (subst (λ u. uses site u place ≡ true) user b.looks)))
    ]
