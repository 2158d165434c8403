-- What is carried of each setting of the new site.
use Rattle.std.proofs.Common.{◌≡◌, ℕ, zero, suc, ◌+◌, ◌-◌, ◌/◌, ◌%◌, ◌<◌, Bool, true, false, List, [], ◌∷◌, ◌++◌}
use Rattle.std.proofs.Common.{length, get_or, map, Option, Some, None, slice_get, replicate, ◌==◌, ◌&&◌, ◌||◌, nat_lt}
use Rattle.std.proofs.Common.{if◌then◌else◌, refl, sym, ◌∙◌, ap, subst, arith}
use Rattle.std.specs.List.{filter}
use Rattle.std.proofs.lemmas.Bool.Decides.{nat_tests}
use Rattle.std.proofs.lemmas.List.{get_or-replicate, length-replicate}
use Rattle.std.proofs.lemmas.Option.{same_Some}
use Rattle.site_types.specs.declared.site.Site.{Site}
use Rattle.site_types.specs.declared.point.Point.{Point as PointPlan}
use Rattle.site_types.specs.declared.zone.Zone.{Zone as ZonePlan}
use Rattle.site_types.specs.declared.output.Output.{Output as OutputPlan}
use Rattle.site_types.specs.declared.point_set.PointSet.{PointSet}
use Rattle.site_types.specs.declared.retained.Retained.{Retained}
use Rattle.site_types.specs.declared.change.Change.{Change}
use Rattle.site_types.specs.declared.change.Change.TheVariants.{Point, Zone, Output, Test}
use Rattle.site_types.specs.Bits.{has_bit, has_point}
use Rattle.site_types.specs.Carry.{point_was_off, zone_was_off, output_was_off, zone_was_tested, point_changes, zone_changes, output_changes, test_changes, carried}
use Rattle.site_types.specs.Changes.{CanApply, changed, changed_by, nothing_retained, IsSized, HasOwnPlaces}
use Rattle.site_types.specs.Done.{Setting, PointOff, ZoneOff, OutputOff, InTest, DelaysOff, Counter, same_setting, IsSetting, at_opening, kept_point, kept_zone, kept_output, kept_test, no_points}
use Rattle.site_types.proofs.ChangedBits.{half_small}
use Rattle.site_types.proofs.Changes.{at_point, at_zone, at_output, at_test, changed_by-append, sized-changed}
use Rattle.site_types.proofs.Masks.{has_bit-mask, has_bit-zero}

-- whether one of the things from a place on is set, and carried
is_among : {X : Type 0} → (ℕ → Setting) → (X → Bool) → Setting → List X → ℕ → Bool
is_among mk test setting [] place = false
is_among mk test setting (x ∷ rest) place = (same_setting setting (mk place) && test x) || is_among mk test setting rest (suc place)

-- what a list of things makes of a setting
record Sets {X : Type 0} (site : Site) (change : X → Change) (mk : ℕ → Setting) (all : List X) : Type 0 where
  at : (i : ℕ) (x : X) → slice_get all i ≡ Some x → (kept : Retained) → IsSized kept → (setting : Setting)
      → at_opening site (changed (change x) kept) setting ≡ (if same_setting setting (mk i) then true else at_opening site kept setting)
  can : (i : ℕ) (x : X) → slice_get all i ≡ Some x → CanApply (change x)

either : (s t n k : Bool) → t ≡ true → (n || (if s then true else k)) ≡ (((s && t) || n) || k)
either s false n k e = absurd (cc)
either true true true k e = refl
either true true false k e = refl
either false true true k e = refl
either false true false k e = refl

neither : (s t n k : Bool) → t ≡ false → (n || k) ≡ (((s && t) || n) || k)
neither s true n k e = absurd (cc)
neither true false n k e = refl
neither false false n k e = refl

sets_all : {X : Type 0} (site : Site) (change : X → Change) (mk : ℕ → Setting) (test : X → Bool) (all : List X) → Sets site change mk all
    → (xs : List X) (place : ℕ) → ((k : ℕ) (x : X) → slice_get xs k ≡ Some x → slice_get all (place + k) ≡ Some x)
    → (kept : Retained) → IsSized kept → (setting : Setting)
    → at_opening site (changed_by (map change (filter test xs)) kept) setting
    ≡ (is_among mk test setting xs place || at_opening site kept setting)
unfolding is_among
sets_all site change mk test all sets [] place inside kept sized setting = refl
sets_all {X = X} site change mk test all sets (x ∷ rest) place inside kept sized setting =
    by (test x) refl (λ k small. sets_all site change mk test all sets rest (suc place) later k small setting)
  where
    here : slice_get all place ≡ Some x
    here = let e : place + 0 ≡ place = omega arith in subst (λ k. slice_get all k ≡ Some x) e (inside 0 x refl)

    later : (k : ℕ) (y : X) → slice_get rest k ≡ Some y → slice_get all (suc place + k) ≡ Some y
    later k y is = let e : place + suc k ≡ suc place + k = omega arith in subst (λ j. slice_get all j ≡ Some y) e (inside (suc k) y is)

    by : (b : Bool) → test x ≡ b
        → ((k : Retained) → IsSized k
        → at_opening site (changed_by (map change (filter test rest)) k) setting ≡ (is_among mk test setting rest (suc place)
        || at_opening site k setting))
        → at_opening site (changed_by (map change (filter test (x ∷ rest))) kept) setting
        ≡ (((same_setting setting (mk place) && test x) || is_among mk test setting rest (suc place)) || at_opening site kept setting)
    by true e ih =
        ap (λ b. at_opening site (changed_by (map change (if b then x ∷ filter test rest else filter test rest)) kept) setting) e
        ∙ ih (changed (change x) kept) (sized-changed (change x) kept (sets.can place x here) sized)
        ∙ ap (λ v. is_among mk test setting rest (suc place) || v) (sets.at place x here kept sized setting)
        ∙ either (same_setting setting (mk place)) (test x) (is_among mk test setting rest (suc place)) (at_opening site kept setting) e
    by false e ih =
        ap (λ b. at_opening site (changed_by (map change (if b then x ∷ filter test rest else filter test rest)) kept) setting) e
        ∙ ih kept sized
        ∙ neither (same_setting setting (mk place)) (test x) (is_among mk test setting rest (suc place)) (at_opening site kept setting) e

-- a setting of another kind, and one of a place before, is not among them
among_none : {X : Type 0} (mk : ℕ → Setting) (test : X → Bool) (setting : Setting) → ((j : ℕ) → same_setting setting (mk j) ≡ false)
    → (xs : List X) (place : ℕ) → is_among mk test setting xs place ≡ false
unfolding is_among
among_none mk test setting none [] place = refl
among_none mk test setting none (x ∷ rest) place =
    ap (λ b. (b && test x) || is_among mk test setting rest (suc place)) (none place) ∙ among_none mk test setting none rest (suc place)

among_past : {X : Type 0} (mk : ℕ → Setting) (test : X → Bool) (i : ℕ) → ((j k : ℕ) → same_setting (mk j) (mk k) ≡ (j == k))
    → (xs : List X) (place : ℕ) → i < place → is_among mk test (mk i) xs place ≡ false
unfolding is_among
among_past mk test i tells [] place past = refl
among_past mk test i tells (x ∷ rest) place past =
    ap (λ b. (b && test x) || is_among mk test (mk i) rest (suc place)) (tells i place ∙ apart i place past) ∙ among_past mk test i tells rest
    (suc place) (omega (arith, past))
  where
    apart : (a b : ℕ) → a < b → (a == b) ≡ false
    apart a b h = grind (arith, nat_tests, h)

among_at : {X : Type 0} (mk : ℕ → Setting) (test : X → Bool) (i : ℕ) → ((j k : ℕ) → same_setting (mk j) (mk k) ≡ (j == k))
    → (xs : List X) (place k : ℕ) (p : X) → slice_get xs k ≡ Some p → i ≡ place + k → is_among mk test (mk i) xs place ≡ test p
unfolding is_among
among_at mk test i tells [] place k p is e = absurd (cc)
among_at mk test i tells (x ∷ rest) place zero p is e =
    ap (λ b. (b && test x) || is_among mk test (mk i) rest (suc place)) (tells i place ∙ same i place (omega (arith, e)))
    ∙ ap (λ b. test x || b) (among_past mk test i tells rest (suc place) (omega (arith, e)))
    ∙ alone (test x)
    ∙ ap test (same_Some x p is)
  where
    same : (a b : ℕ) → a ≡ b → (a == b) ≡ true
    same a b h = grind (arith, nat_tests, h)

    alone : (b : Bool) → (b || false) ≡ b
    alone true = refl
    alone false = refl
among_at mk test i tells (x ∷ rest) place (suc k) p is e =
    ap (λ b. (b && test x) || is_among mk test (mk i) rest (suc place)) (tells i place ∙ apart i place (omega (arith, e)))
    ∙ among_at mk test i tells rest (suc place) k p is (omega (arith, e))
  where
    apart : (a b : ℕ) → b < a → (a == b) ≡ false
    apart a b h = grind (arith, nat_tests, h)

-- what the four lists of changes make of settings
point_sets : (site : Site) → HasOwnPlaces site → Sets site (λ (p : PointPlan). Point p.panel p.line p.address true) PointOff site.points
point_sets site own = record { at = λ i p is kept sized setting. at_point site kept i p true own sized is setting; can = λ i p is. own.point i p is }

zone_sets : (site : Site) → HasOwnPlaces site → Sets site (λ (z : ZonePlan). Zone z.panel z.number true) ZoneOff site.zones
zone_sets site own = record { at = λ i z is kept sized setting. at_zone site kept i z true own sized is setting; can = λ i z is. own.zone i z is }

output_sets : (site : Site) → HasOwnPlaces site → Sets site (λ (o : OutputPlan). Output o.panel o.number true) OutputOff site.outputs
output_sets site own = record {
  at = λ i o is kept sized setting. at_output site kept i o true own sized is setting;
  can =
      λ i o is. own.output i o is;
}

test_sets : (site : Site) → HasOwnPlaces site → Sets site (λ (z : ZonePlan). Test z.panel z.number true) InTest site.zones
test_sets site own = record { at = λ i z is kept sized setting. at_test site kept i z true own sized is setting; can = λ i z is. own.zone i z is }

sized_list : {X : Type 0} (site : Site) (change : X → Change) (mk : ℕ → Setting) (test : X → Bool) (all : List X) → Sets site change mk all
    → (xs : List X) (place : ℕ) → ((k : ℕ) (x : X) → slice_get xs k ≡ Some x → slice_get all (place + k) ≡ Some x)
    → (kept : Retained) → IsSized kept → IsSized (changed_by (map change (filter test xs)) kept)
sized_list site change mk test all sets [] place inside kept sized = sized
sized_list {X = X} site change mk test all sets (x ∷ rest) place inside kept sized =
    by (test x) refl (λ k small. sized_list site change mk test all sets rest (suc place) later k small)
  where
    here : slice_get all place ≡ Some x
    here = let e : place + 0 ≡ place = omega arith in subst (λ k. slice_get all k ≡ Some x) e (inside 0 x refl)

    later : (k : ℕ) (y : X) → slice_get rest k ≡ Some y → slice_get all (suc place + k) ≡ Some y
    later k y is = let e : place + suc k ≡ suc place + k = omega arith in subst (λ j. slice_get all j ≡ Some y) e (inside (suc k) y is)

    by : (b : Bool) → test x ≡ b → ((k : Retained) → IsSized k → IsSized (changed_by (map change (filter test rest)) k))
        → IsSized (changed_by (map change (filter test (x ∷ rest))) kept)
    by true e ih =
        subst (λ b. IsSized (changed_by (map change (if b then x ∷ filter test rest else filter test rest)) kept)) (sym e)
        (ih (changed (change x) kept) (sized-changed (change x) kept (sets.can place x here) sized))
    by false e ih = subst (λ b. IsSized (changed_by (map change (if b then x ∷ filter test rest else filter test rest)) kept)) (sym e) (ih kept sized)

from_first : {X : Type 0} (xs : List X) (k : ℕ) (x : X) → slice_get xs k ≡ Some x → slice_get xs (0 + k) ≡ Some x
from_first xs k x is = let e : k ≡ 0 + k = omega arith in subst (λ j. slice_get xs j ≡ Some x) e is

-- nothing retained: each list has its length, and no setting is set
pub sized_nothing : IsSized nothing_retained
sized_nothing =
    let halves : List ℕ = replicate 2 0 in
    let loops : List (List ℕ) = replicate 4 halves in
    let none : PointSet = record { loops = loops } in
    let masks : List ℕ = replicate 8 0 in
    let eight : length masks ≡ 8 = length-replicate {A = ℕ} 8 0 in
    record {
      points = length-replicate 8 none;
      loops = λ k small. ap (λ (s : PointSet). length s.loops) (get_or-replicate 8 k none no_points small) ∙ length-replicate 4 halves;
      halves = λ k l small small'.
          ap (λ (s : PointSet). length (get_or s.loops l [])) (get_or-replicate 8 k none no_points small)
          ∙ ap length (get_or-replicate 4 l halves [] small')
          ∙ length-replicate {A = ℕ} 2 0;
      zones = eight;
      outputs = eight;
      counters = eight;
      tests = eight;
    }

none_of_masks : (k bit : ℕ) → k < 8 → has_bit (get_or (replicate 8 0) k 0) bit ≡ false
none_of_masks k bit small = ap (λ m. has_bit m bit) (get_or-replicate 8 k 0 0 small) ∙ has_bit-zero bit

nothing_set : (site : Site) → HasOwnPlaces site → (setting : Setting) → at_opening site nothing_retained setting ≡ false
nothing_set site own (PointOff i) = by (slice_get site.points i) refl
  where
    by : (o : Option PointPlan) → slice_get site.points i ≡ o → kept_point nothing_retained o ≡ false
    by None is = refl
    by (Some p) is =
        let place = own.point i p is in
        ap (λ s. has_point s p.line p.address) (get_or-replicate 8 (p.panel - 1) (record { loops = replicate 4 (replicate 2 0) }) no_points (let one =
        place.0.0 in let all = place.0.1 in omega (arith, one, all)))
        ∙ ap (λ h. has_bit (get_or h ((p.address - 1) / 96) 0) ((p.address - 1) % 96)) (get_or-replicate 4 (p.line - 1) (replicate 2 0) [] (let one =
        place.1.0 in let all = place.1.1 in omega (arith, one, all)))
        ∙ ap (λ m. has_bit m ((p.address - 1) % 96)) (get_or-replicate 2 ((p.address - 1) / 96) 0 0 (half_small p.address place.1.3))
        ∙ has_bit-zero ((p.address - 1) % 96)
nothing_set site own (ZoneOff i) = by (slice_get site.zones i) refl
  where
    by : (o : Option ZonePlan) → slice_get site.zones i ≡ o → kept_zone nothing_retained o ≡ false
    by None is = refl
    by (Some z) is = let place = own.zone i z is in
        none_of_masks (z.panel - 1) (z.number - 1) (let one = place.0.0 in let all = place.0.1 in omega (arith, one, all))
nothing_set site own (OutputOff i) = by (slice_get site.outputs i) refl
  where
    by : (o : Option OutputPlan) → slice_get site.outputs i ≡ o → kept_output nothing_retained o ≡ false
    by None is = refl
    by (Some z) is = let place = own.output i z is in none_of_masks (z.panel - 1) (z.number - 1) (let one = place.0.0 in let all = place.0.1 in
        omega (arith, one, all))
nothing_set site own (InTest i) = by (slice_get site.zones i) refl
  where
    by : (o : Option ZonePlan) → slice_get site.zones i ≡ o → kept_test nothing_retained o ≡ false
    by None is = refl
    by (Some z) is = let place = own.zone i z is in
        none_of_masks (z.panel - 1) (z.number - 1) (let one = place.0.0 in let all = place.0.1 in omega (arith, one, all))
nothing_set site own (DelaysOff panel) = has_bit-zero (panel - 1)
nothing_set site own (Counter panel) = refl

-- whether one of the four lists of changes sets a setting
abbrev tests_on : Site → Site → Retained → Setting → Bool
tests_on old new state setting = is_among InTest (λ (x : ZonePlan). zone_was_tested old state x.name.bytes) setting new.zones 0

abbrev outputs_on : Site → Site → Retained → Setting → Bool
outputs_on old new state setting = is_among OutputOff (λ (x : OutputPlan). output_was_off old state x.name.bytes) setting new.outputs 0

abbrev zones_on : Site → Site → Retained → Setting → Bool
zones_on old new state setting = is_among ZoneOff (λ (x : ZonePlan). zone_was_off old state x.name.bytes) setting new.zones 0

abbrev points_on : Site → Site → Retained → Setting → Bool
points_on old new state setting = is_among PointOff (λ (x : PointPlan). point_was_off old state x.name.bytes) setting new.points 0

-- the four lists of changes together
abbrev all_changes : Site → Site → Retained → List Change
all_changes old new state = point_changes old new state ++ zone_changes old new state ++ output_changes old new state ++ test_changes old new state

all_sets : (old new : Site) (state : Retained) → HasOwnPlaces new → (setting : Setting)
    → at_opening new (changed_by (all_changes old new state) nothing_retained) setting
    ≡ (tests_on old new state setting || (outputs_on old new state setting || (zones_on old new state setting || (points_on old new state setting
    || false))))
all_sets old new state own setting =
    let points = point_changes old new state in
    let zones = zone_changes old new state in
    let outputs = output_changes old new state in
    let tests = test_changes old new state in
    let one = changed_by points nothing_retained in
    let two = changed_by zones one in
    let three = changed_by outputs two in
    let point_off = λ (p : PointPlan). point_was_off old state p.name.bytes in
    let zone_off = λ (z : ZonePlan). zone_was_off old state z.name.bytes in
    let output_off = λ (o : OutputPlan). output_was_off old state o.name.bytes in
    let zone_tested = λ (z : ZonePlan). zone_was_tested old state z.name.bytes in
    let sized_one =
    sized_list new (λ (p : PointPlan). Point p.panel p.line p.address true) PointOff point_off new.points (point_sets new own) new.points 0
    (from_first new.points) nothing_retained sized_nothing in
    let sized_two =
    sized_list new (λ (z : ZonePlan). Zone z.panel z.number true) ZoneOff zone_off new.zones (zone_sets new own) new.zones 0 (from_first new.zones) one
    sized_one in
    let sized_three =
    sized_list new (λ (o : OutputPlan). Output o.panel o.number true) OutputOff output_off new.outputs (output_sets new own) new.outputs 0
    (from_first new.outputs) two sized_two in
    ap (λ k. at_opening new k setting) (changed_by-append (points ++ zones ++ outputs) tests nothing_retained ∙ ap (changed_by tests)
    (changed_by-append (points ++ zones) outputs nothing_retained ∙ ap (changed_by outputs) (changed_by-append points zones nothing_retained)))
    ∙ sets_all new (λ (z : ZonePlan). Test z.panel z.number true) InTest zone_tested new.zones (test_sets new own) new.zones 0 (from_first new.zones)
    three sized_three setting
    ∙ ap (λ b. tests_on old new state setting || b)
    (sets_all new (λ (o : OutputPlan). Output o.panel o.number true) OutputOff output_off new.outputs (output_sets new own) new.outputs 0
    (from_first new.outputs) two sized_two setting
    ∙ ap (λ b. outputs_on old new state setting || b)
    (sets_all new (λ (z : ZonePlan). Zone z.panel z.number true) ZoneOff zone_off new.zones (zone_sets new own) new.zones 0 (from_first new.zones) one
    sized_one setting
    ∙ ap (λ b. zones_on old new state setting || b)
    (sets_all new (λ (p : PointPlan). Point p.panel p.line p.address true) PointOff point_off new.points (point_sets new own) new.points 0
    (from_first new.points) nothing_retained sized_nothing setting
    ∙ ap (λ b. points_on old new state setting || b) (nothing_set new own setting))))

-- of four tests one may hold
or_false : (b : Bool) → (b || false) ≡ b
or_false true = refl
or_false false = refl

only_test : (a b c d : Bool) → b ≡ false → c ≡ false → d ≡ false → (a || (b || (c || (d || false)))) ≡ a
only_test a b c d e f g = rw (e, f, g) (or_false a)

only_output : (a b c d : Bool) → a ≡ false → c ≡ false → d ≡ false → (a || (b || (c || (d || false)))) ≡ b
only_output a b c d e f g = rw (e, f, g) (or_false b)

only_zone : (a b c d : Bool) → a ≡ false → b ≡ false → d ≡ false → (a || (b || (c || (d || false)))) ≡ c
only_zone a b c d e f g = rw (e, f, g) (or_false c)

only_point : (a b c d : Bool) → a ≡ false → b ≡ false → c ≡ false → (a || (b || (c || (d || false)))) ≡ d
only_point a b c d e f g = rw (e, f, g) (or_false d)

-- tests that agree on nothing and on each thing agree on what may be there
same_tests : {X : Type 0} (f g : Option X → Bool) → f None ≡ g None → ((x : X) → f (Some x) ≡ g (Some x)) → (o : Option X) → f o ≡ g o
same_tests f g none some None = none
same_tests f g none some (Some x) = some x

-- A point, a zone or an output of the new site begins disabled exactly where one of its kind and name was
-- disabled in the old one, and a zone begins in test exactly where a zone of its name was in test.
pub carried-point : (old new : Site) (state : Retained) → HasOwnPlaces new → (i : ℕ) (x : PointPlan) → slice_get new.points i ≡ Some x
    → at_opening new (carried old new state) (PointOff i) ≡ point_was_off old state x.name.bytes
carried-point old new state own i x is =
    let this = PointOff i in
    same_tests (kept_point (carried old new state)) (kept_point (changed_by (all_changes old new state) nothing_retained)) refl (λ y. refl)
    (slice_get new.points i)
    ∙ all_sets old new state own this
    ∙ only_point (tests_on old new state this) (outputs_on old new state this) (zones_on old new state this) (points_on old new state this)
    (among_none InTest (λ (y : ZonePlan). zone_was_tested old state y.name.bytes) this (λ j. refl) new.zones 0)
    (among_none OutputOff (λ (y : OutputPlan). output_was_off old state y.name.bytes) this (λ j. refl) new.outputs 0)
    (among_none ZoneOff (λ (y : ZonePlan). zone_was_off old state y.name.bytes) this (λ j. refl) new.zones 0)
    ∙ among_at PointOff (λ (y : PointPlan). point_was_off old state y.name.bytes) i (λ j k. refl) new.points 0 i x is (omega arith)

pub carried-zone : (old new : Site) (state : Retained) → HasOwnPlaces new → (i : ℕ) (x : ZonePlan) → slice_get new.zones i ≡ Some x
    → at_opening new (carried old new state) (ZoneOff i) ≡ zone_was_off old state x.name.bytes
carried-zone old new state own i x is =
    let this = ZoneOff i in
    same_tests (kept_zone (carried old new state)) (kept_zone (changed_by (all_changes old new state) nothing_retained)) refl (λ y. refl)
    (slice_get new.zones i)
    ∙ all_sets old new state own this
    ∙ only_zone (tests_on old new state this) (outputs_on old new state this) (zones_on old new state this) (points_on old new state this)
    (among_none InTest (λ (y : ZonePlan). zone_was_tested old state y.name.bytes) this (λ j. refl) new.zones 0)
    (among_none OutputOff (λ (y : OutputPlan). output_was_off old state y.name.bytes) this (λ j. refl) new.outputs 0)
    (among_none PointOff (λ (y : PointPlan). point_was_off old state y.name.bytes) this (λ j. refl) new.points 0)
    ∙ among_at ZoneOff (λ (y : ZonePlan). zone_was_off old state y.name.bytes) i (λ j k. refl) new.zones 0 i x is (omega arith)

pub carried-output : (old new : Site) (state : Retained) → HasOwnPlaces new → (i : ℕ) (x : OutputPlan) → slice_get new.outputs i ≡ Some x
    → at_opening new (carried old new state) (OutputOff i) ≡ output_was_off old state x.name.bytes
carried-output old new state own i x is =
    let this = OutputOff i in
    same_tests (kept_output (carried old new state)) (kept_output (changed_by (all_changes old new state) nothing_retained)) refl (λ y. refl)
    (slice_get new.outputs i)
    ∙ all_sets old new state own this
    ∙ only_output (tests_on old new state this) (outputs_on old new state this) (zones_on old new state this) (points_on old new state this)
    (among_none InTest (λ (y : ZonePlan). zone_was_tested old state y.name.bytes) this (λ j. refl) new.zones 0)
    (among_none ZoneOff (λ (y : ZonePlan). zone_was_off old state y.name.bytes) this (λ j. refl) new.zones 0)
    (among_none PointOff (λ (y : PointPlan). point_was_off old state y.name.bytes) this (λ j. refl) new.points 0)
    ∙ among_at OutputOff (λ (y : OutputPlan). output_was_off old state y.name.bytes) i (λ j k. refl) new.outputs 0 i x is (omega arith)

pub carried-test : (old new : Site) (state : Retained) → HasOwnPlaces new → (i : ℕ) (x : ZonePlan) → slice_get new.zones i ≡ Some x
    → at_opening new (carried old new state) (InTest i) ≡ zone_was_tested old state x.name.bytes
carried-test old new state own i x is =
    let this = InTest i in
    same_tests (kept_test (carried old new state)) (kept_test (changed_by (all_changes old new state) nothing_retained)) refl (λ y. refl)
    (slice_get new.zones i)
    ∙ all_sets old new state own this
    ∙ only_test (tests_on old new state this) (outputs_on old new state this) (zones_on old new state this) (points_on old new state this)
    (among_none OutputOff (λ (y : OutputPlan). output_was_off old state y.name.bytes) this (λ j. refl) new.outputs 0)
    (among_none ZoneOff (λ (y : ZonePlan). zone_was_off old state y.name.bytes) this (λ j. refl) new.zones 0)
    (among_none PointOff (λ (y : PointPlan). point_was_off old state y.name.bytes) this (λ j. refl) new.points 0)
    ∙ among_at InTest (λ (y : ZonePlan). zone_was_tested old state y.name.bytes) i (λ j k. refl) new.zones 0 i x is (omega arith)

-- delays begin off exactly where they were off and the new site has the panel
pub carried-delays : (old new : Site) (state : Retained) (panel : ℕ) → IsSetting (DelaysOff panel)
    → at_opening new (carried old new state) (DelaysOff panel) ≡ (nat_lt (panel - 1) new.panels && at_opening old state (DelaysOff panel))
carried-delays old new state panel here =
    has_bit-mask 8 (λ k. nat_lt k new.panels && has_bit state.delays_off k) (panel - 1) (omega (arith, here.0, here.1))
