-- One marker more is passed after a change.
use Rattle.std.proofs.Common.{◌≡◌, ◌≤◌, ◌<◌, ◌==◌, ◌+◌, ◌-◌, ◌&&◌, ◌||◌, ◌⊎◌, inl, inr, ℕ, zero, suc, Bool, true}
use Rattle.std.proofs.Common.{false, List, [], ◌∷◌, Option, Some, nat_eq, length, take, get_or, refl, sym, ap, subst}
use Rattle.std.proofs.Common.{◌∙◌, arith, if◌then◌else◌}
use Rattle.std.specs.Prelude.{slice_get}
use Rattle.std.specs.List.{list_any, IsDistinct}
use Rattle.std.proofs.lemmas.Bool.{cases_lt}
use Rattle.std.specs.Cmp.Lexicographic.{pointwise}
use Rattle.std.proofs.lemmas.Bool.Decides.{Decides-eqb, eqb_tells}
use Rattle.std.proofs.lemmas.Slice.Eq.{slice_eq-Decides}
use Rattle.std.proofs.lemmas.List.{take_all}
use Rattle.std.proofs.lemmas.Map.Keys.{apart_from_distinct}
use Rattle.std.proofs.lemmas.Option.{get_or_from_slice_get, slice_get_within}
use Rattle.site_types.specs.Bits.{has_bit}
use Rattle.site_types.specs.declared.site.Site.{Site}
use Rattle.site_types.specs.declared.zone.Zone.{Zone}
use Rattle.site_types.specs.declared.marker.Marker.{Marker}
use Rattle.site_types.specs.declared.term.Term.{Term}
use Rattle.site_types.specs.declared.term.Term.TheVariants.{Zone as ZoneTerm, Manual as ManualTerm, Fault as FaultTerm, Marker as MarkerTerm}
use Rattle.marker_table.specs.declared.facts.Facts.{Facts}
use Rattle.marker_table.specs.Equations.{equation, zone_bit}
use Rattle.cause_effect.specs.Changes.{differ, is_changed, DependsOnChanged, directly, through, RoseByNumberOf}
use Rattle.cause_effect.specs.Cycles.{is_among, terms_of, HasNoCycle}
use Rattle.cause_effect.specs.Orders.{IsOrder}
use Rattle.cause_effect.specs.Solutions.{IsSolution}
use Rattle.cause_effect.proofs.Depths.{none_equal, same_solution, the_values, the_values_solve}
use Rattle.cause_effect.proofs.Equations.{equation_same, has_within}
use Rattle.cause_effect.proofs.Kept.{differ_self, not_true, value_kept}
use Rattle.cause_effect.proofs.Orders.{order_is_free, stands}
use Rattle.cause_effect.proofs.Solving.{among_more, is_solution, no_marker, Puts}
use Rattle.cause_effect.proofs.Truths.{and_first, and_second, equal_number, number_is, or_left, or_right}

-- ---- one marker more of a front

pub or_false : (a b : Bool) → (a || (b || false)) ≡ (a || b)
or_false true b = refl
or_false false true = refl
or_false false false = refl

-- the front with the next marker
pub front_next : (order : List ℕ) (k x m : ℕ) → slice_get order k ≡ Some x → is_among m (take (k + 1) order) ≡ (is_among m (take k order) || (m == x))
front_next order k x m at =
    among_more m k order (slice_get_within order k x at) ∙
    (or_false (is_among m (take k order)) (m == get_or order k 0) ∙ ap (λ y. is_among m (take k order) || (m == y))
    (get_or_from_slice_get order k x 0 at))

pub or_cases : (a b : Bool) → (a || b) ≡ true → (a ≡ true) ⊎ (b ≡ true)
or_cases true b h = inl refl
or_cases false b h = inr h

next_cases : (order : List ℕ) (k x m : ℕ) → slice_get order k ≡ Some x → is_among m (take (k + 1) order) ≡ true
    → (is_among m (take k order) ≡ true) ⊎ (m ≡ x)
next_cases order k x m at h = elim (or_cases (is_among m (take k order)) (m == x) (sym (front_next order k x m at) ∙ h)) [
  | inl before ↦ inl before
  | inr here ↦ inr (number_is m x here)
]

front_kept : (order : List ℕ) (k x m : ℕ) → slice_get order k ≡ Some x → is_among m (take k order) ≡ true → is_among m (take (k + 1) order) ≡ true
front_kept order k x m at h = front_next order k x m at ∙ or_left (is_among m (take k order)) (m == x) h

front_has : (order : List ℕ) (k x : ℕ) → slice_get order k ≡ Some x → is_among x (take (k + 1) order) ≡ true
front_has order k x at = front_next order k x x at ∙ or_right (is_among x (take k order)) (x == x) (equal_number x)

-- in an order that has each marker once, the next one isn't in front
pub fresh_next : (order : List ℕ) (k x : ℕ) → IsDistinct (λ a b. a == b) order → slice_get order k ≡ Some x → is_among x (take k order) ≡ false
fresh_next order k x once at = not_true (is_among x (take k order)) (λ h.
    let w = stands x k order h in
    let apart = apart_from_distinct (λ a b. a == b) order w.place k 0 once w.before (slice_get_within order k x at) in
    let first = get_or_from_slice_get order w.place x 0 w.at in
    let second = get_or_from_slice_get order k x 0 at in
    let equal = equal_number x in
    clash x (get_or order w.place 0) (get_or order k 0) first second apart)
  where
    clash : (x a b : ℕ) → a ≡ x → b ≡ x → (a == b) ≡ false → ⊥
    clash x a b p q h = let e : (x == x) ≡ true = equal_number x in cc (p, q, h, e)

-- ---- counting

-- the markers that were evaluated are those of the first k that depend on a change, each once, and the steps
-- rose by as many
pub record AreEvaluated (site : Site) (before after : Facts) (order : List ℕ) (k start steps : ℕ) : Type 0 where
  pub members : List ℕ
  pub once : IsDistinct (λ x y. x == y) members
  pub all : (m : ℕ) → is_among m (take k order) ≡ true → DependsOnChanged site before after m → is_among m members ≡ true
  pub only : (m : ℕ) → is_among m members ≡ true → DependsOnChanged site before after m
  pub front : (m : ℕ) → is_among m members ≡ true → is_among m (take k order) ≡ true
  pub counted : steps ≡ start + length members

pub evaluated_first : (site : Site) (before after : Facts) (order : List ℕ) (start : ℕ) → AreEvaluated site before after order 0 start start
unfolding IsDistinct
evaluated_first site before after order start = record {
  members = [];
  once = tt;
  all = λ m among d. cc;
  only = λ m h. cc;
  front = λ m h. cc;
  counted = omega arith;
}

pub evaluated_on : (site : Site) (before after : Facts) (order : List ℕ) (k x start steps : ℕ) → IsDistinct (λ a b. a == b) order
    → slice_get order k ≡ Some x →
    AreEvaluated site before after order k start steps → DependsOnChanged site before after x
    → AreEvaluated site before after order (k + 1) start (steps + 1)
unfolding IsDistinct
evaluated_on site before after order k x start steps once at w depends = record {
  members = x ∷ w.members;
  once = (
    none_equal x w.members (not_true (is_among x w.members) (λ h. let front = w.front x h in let fresh = fresh_next order k x once at in
        cc (front, fresh))),
    w.once,
  );
  all = λ m among d. elim (next_cases order k x m at among) [
    | inl earlier ↦ or_right (m == x) (is_among m w.members) (w.all m earlier d)
    | inr here ↦ or_left (m == x) (is_among m w.members) (subst (λ n. (m == n) ≡ true) here (equal_number m))
  ];
  only = λ m h. elim (or_cases (m == x) (is_among m w.members) h) [
    | inl here ↦ subst (DependsOnChanged site before after) (sym (number_is m x here)) depends
    | inr earlier ↦ w.only m earlier
  ];
  front = λ m h. elim (or_cases (m == x) (is_among m w.members) h) [
    | inl here ↦ subst (λ n. is_among n (take (k + 1) order) ≡ true) (sym (number_is m x here)) (front_has order k x at)
    | inr earlier ↦ front_kept order k x m at (w.front m earlier)
  ];
  counted = (let before = w.counted in omega (arith, before));
}

pub evaluated_still : (site : Site) (before after : Facts) (order : List ℕ) (k x start steps : ℕ) → slice_get order k ≡ Some x →
    AreEvaluated site before after order k start steps → (DependsOnChanged site before after x → ⊥)
    → AreEvaluated site before after order (k + 1) start steps
evaluated_still site before after order k x start steps at w free = record {
  members = w.members;
  once = w.once;
  all = λ m among d. elim (next_cases order k x m at among) [
    | inl earlier ↦ w.all m earlier d
    | inr here ↦ absurd (free (subst (DependsOnChanged site before after) here d))
  ];
  only = w.only;
  front = λ m h. front_kept order k x m at (w.front m h);
  counted = w.counted;
}

changed_within : (markers : List Marker) (m : ℕ) (p : Term → Bool) → list_any p (terms_of (slice_get markers m)) ≡ true → m < length markers
changed_within [] m p h = cc
changed_within (marker ∷ markers) zero p h = omega arith
changed_within (marker ∷ markers) (suc m) p h = let less = changed_within markers m p h in omega (arith, less)

pub depends_within : (site : Site) (before after : Facts) (m : ℕ) → DependsOnChanged site before after m → m < length site.markers
depends_within site before after m (directly n h) = changed_within site.markers n (is_changed site before after) h
depends_within site before after m (through n next term d) = has_within site n next term

pub evaluated_all : (site : Site) (before after : Facts) (order : List ℕ) (k start steps : ℕ) → IsOrder site order → length order ≤ k →
    AreEvaluated site before after order k start steps → RoseByNumberOf (DependsOnChanged site before after) start steps
evaluated_all site before after order k start steps is done w = (
  length w.members,
  w.counted,
  record {
    members = w.members;
    once = w.once;
    all = λ m d. w.all m (ap (is_among m) (take_all k order done) ∙ is.whole m (depends_within site before after m d)) d;
    only = w.only;
    counted = refl;
  },
)

-- ---- values

-- the first k markers of the order have their values after the change, the others those before it
pub record AreCarried (site : Site) (before after : Facts) (order : List ℕ) (k : ℕ) (v : ℕ → Bool) : Type 0 where
  pub each : (m : ℕ) → v m ≡ (if is_among m (take k order) then the_values site after m else the_values site before m)

pub carried_same : (site : Site) (before after : Facts) (order : List ℕ) (k : ℕ) (v w : ℕ → Bool) → ((m : ℕ) → w m ≡ v m)
    → AreCarried site before after order k v → AreCarried site before after order k w
carried_same site before after order k v w same known = record { each = λ m. same m ∙ known.each m }

pub carried_first : (site : Site) (before after : Facts) (order : List ℕ) (v : ℕ → Bool) → IsOrder site order
    → IsSolution site before v →
    AreCarried site before after order 0 v
carried_first site before after order v is solves = record {
  each = λ m. same_solution site before v (the_values site before) (order_is_free site order is) solves
      (the_values_solve site before (order_is_free site order is)) m;
}

front_value : (b : Bool) (x y : Bool) → b ≡ true → (if b then x else y) ≡ x
front_value true x y e = refl
front_value false x y e = cc

-- what its terms make of the next marker is its value after the change
pub next_changed : (site : Site) (before after : Facts) (order : List ℕ) (k x : ℕ) (v : ℕ → Bool) → IsOrder site order
    → slice_get order k ≡ Some x →
    AreCarried site before after order k v → equation site after v x ≡ the_values site after x
next_changed site before after order k x v is at known =
    equation_same site after v (the_values site after) x
    (λ other term. known.each other ∙ front_value (is_among other (take k order)) (the_values site after other) (the_values site before other)
    (is.rising k x other at term)) ∙
    sym (the_values_solve site after (order_is_free site order is) x)

-- the next marker has its value after the change, whether it was evaluated or not
carried_more : (a b : Bool) (now then_ : Bool) (value : Bool) → value ≡ (if a then now else then_) → (b ≡ true → value ≡ now)
    → value ≡ (if a || b then now else then_)
carried_more true b now then_ value e f = e
carried_more false true now then_ value e f = f refl
carried_more false false now then_ value e f = e

either : (b : Bool) (x y : Bool) → y ≡ x → (if b then x else y) ≡ x
either true x y e = refl
either false x y e = e

pub carried_still : (site : Site) (before after : Facts) (order : List ℕ) (k x : ℕ) (v : ℕ → Bool) → slice_get order k ≡ Some x →
    AreCarried site before after order k v → (DependsOnChanged site before after x → ⊥) → AreCarried site before after order (k + 1) v
carried_still site before after order k x v at known free = record {
  each = λ m. carried_more (is_among m (take k order)) (m == x) (the_values site after m) (the_values site before m) (v m)
      (known.each m)
      (λ here. stays m (number_is m x here)) ∙
      ap (λ b. if b then the_values site after m else the_values site before m) (sym (front_next order k x m at));
}
  where
    stays : (m : ℕ) → m ≡ x → v m ≡ the_values site after m
    stays m same = known.each m ∙
        either (is_among m (take k order)) (the_values site after m) (the_values site before m)
        (value_kept site before after m (λ d. free (subst (DependsOnChanged site before after) same d)))

still : (a b : Bool) → b ≡ false → a ≡ (a || b)
still true b e = refl
still false b e = sym e

carried_at : (site : Site) (before after : Facts) (order : List ℕ) (k x : ℕ) (v more : ℕ → Bool) (value : Bool) → slice_get order k ≡ Some x
    → Puts x value v more →
    AreCarried site before after order k v → value ≡ the_values site after x →
    (m : ℕ) → more m ≡ (if is_among m (take (k + 1) order) then the_values site after m else the_values site before m)
carried_at site before after order k x v more value at puts known right m = elim (eqb_tells m x) [
  | inl here ↦ (
      let among : is_among m (take (k + 1) order) ≡ true =
      subst (λ n. is_among n (take (k + 1) order) ≡ true) (sym here.1) (front_has order k x at) in
      ap more here.1 ∙
      (puts.this ∙ (right ∙ (ap (the_values site after) (sym here.1) ∙
      sym (front_value (is_among m (take (k + 1) order)) (the_values site after m) (the_values site before m) among)))))
  | inr apart ↦ (puts.others m apart.1 ∙ (known.each m ∙
      ap (λ b. if b then the_values site after m else the_values site before m)
      (still (is_among m (take k order)) (m == x) apart.0 ∙ sym (front_next order k x m at))))
]

pub carried_on : (site : Site) (before after : Facts) (order : List ℕ) (k x : ℕ) (v more : ℕ → Bool) (value : Bool) → IsOrder site order
    → slice_get order k ≡ Some x → Puts x value v more →
    AreCarried site before after order k v → value ≡ equation site after v x → AreCarried site before after order (k + 1) more
carried_on site before after order k x v more value is at puts known made = record {
  each = carried_at site before after order k x v more value at puts known (made ∙ next_changed site before after order k x v is at known);
}

or_both : {a b : Bool} → a ≡ false → b ≡ false → (a || b) ≡ false
or_both {a = true} {b = b} e f = cc
or_both {a = false} {b = b} e f = f

no_value : (site : Site) (facts : Facts) → HasNoCycle site → (m : ℕ) → length site.markers ≤ m → the_values site facts m ≡ false
no_value site facts free m past = the_values_solve site facts free m ∙ no_marker site facts (the_values site facts) m past

both_false : (b x y : Bool) → x ≡ false → y ≡ false → (if b then x else y) ≡ x
both_false true x y e f = refl
both_false false x y e f = f ∙ sym e

whole_value : (site : Site) (before after : Facts) (order : List ℕ) → IsOrder site order → (m : ℕ) →
    (if is_among m order then the_values site after m else the_values site before m) ≡ the_values site after m
whole_value site before after order is m = elim (cases_lt m (length site.markers)) [
  | inl within ↦ front_value (is_among m order) (the_values site after m) (the_values site before m) (is.whole m within)
  | inr past ↦ both_false (is_among m order) (the_values site after m) (the_values site before m)
      (no_value site after (order_is_free site order is) m past) (no_value site before (order_is_free site order is) m past)
]

pub carried_all : (site : Site) (before after : Facts) (order : List ℕ) (k : ℕ) (v : ℕ → Bool) → IsOrder site order → length order ≤ k
    → AreCarried site before after order k v →
    IsSolution site after v
carried_all site before after order k v is done known =
    is_solution site after v (order_is_free site order is)
    (λ m. known.each m ∙ (ap (λ xs. if is_among m xs then the_values site after m else the_values site before m) (take_all k order done) ∙ whole_value site before after order is m))

-- ---- where no fact changed

pub record AreEqual (before after : Facts) : Type 0 where
  pub zones : before.zones ≡ after.zones
  pub manual : before.manual ≡ after.manual
  pub faults : before.faults ≡ after.faults

equal_bit : (before after : List ℕ) (found : Option Zone) → before ≡ after → differ (zone_bit before found) (zone_bit after found) ≡ false
equal_bit before after found e = ap (λ masks. differ (zone_bit before found) (zone_bit masks found)) (sym e) ∙ differ_self (zone_bit before found)

none_changed : (site : Site) (before after : Facts) → AreEqual before after → (terms : List Term)
    → list_any (is_changed site before after) terms ≡ false
none_changed site before after same [] = refl
none_changed site before after same (ZoneTerm place ∷ terms) =
    or_both (equal_bit before.zones after.zones (slice_get site.zones place) same.zones) (none_changed site before after same terms)
none_changed site before after same (ManualTerm place ∷ terms) =
    or_both (equal_bit before.manual after.manual (slice_get site.zones place) same.manual) (none_changed site before after same terms)
none_changed site before after same (FaultTerm panel ∷ terms) =
    or_both (ap (λ mask. differ (has_bit before.faults (panel - 1)) (has_bit mask (panel - 1))) (sym same.faults) ∙ differ_self
    (has_bit before.faults (panel - 1))) (none_changed site before after same terms)
none_changed site before after same (MarkerTerm other ∷ terms) = none_changed site before after same terms

none_depends : (site : Site) (before after : Facts) → AreEqual before after → (m : ℕ) → DependsOnChanged site before after m → ⊥
none_depends site before after same m (directly n h) = let none = none_changed site before after same (terms_of (slice_get site.markers n)) in
    cc (h, none)
none_depends site before after same m (through n next term d) = none_depends site before after same next d

pub rose_where_free : (site : Site) (before after : Facts) (steps : ℕ) → ((m : ℕ) → DependsOnChanged site before after m → ⊥)
    → RoseByNumberOf (DependsOnChanged site before after) steps steps
unfolding IsDistinct
rose_where_free site before after steps none = (
  0,
  refl_plus steps,
  record {
    members = [];
    once = tt;
    all = λ m d. absurd (none m d);
    only = λ m h. cc;
    counted = refl;
  },
)
  where
    refl_plus : (n : ℕ) → n ≡ n + 0
    refl_plus n = omega arith

pub rose_by_none : (site : Site) (before after : Facts) (steps : ℕ) → AreEqual before after
    → RoseByNumberOf (DependsOnChanged site before after) steps steps
rose_by_none site before after steps same = rose_where_free site before after steps (none_depends site before after same)

-- what `==` of two facts says
pub equal_facts : (before after : Facts)
    → true ≡ (pointwise nat_eq before.zones after.zones && (pointwise nat_eq before.manual after.manual && nat_eq before.faults after.faults))
    → AreEqual before after
equal_facts before after h = record {
  zones = (slice_eq-Decides Decides-eqb before.zones after.zones _ refl).0 (and_first zones (manual && faults) (sym h));
  manual = (slice_eq-Decides Decides-eqb before.manual after.manual _ refl).0 (and_first manual faults (and_second zones (manual && faults) (sym h)));
  faults = number_is before.faults after.faults (and_second manual faults (and_second zones (manual && faults) (sym h)));
}
  where
    zones : Bool
    zones = pointwise nat_eq before.zones after.zones

    manual : Bool
    manual = pointwise nat_eq before.manual after.manual

    faults : Bool
    faults = nat_eq before.faults after.faults
