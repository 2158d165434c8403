-- What a change makes of each setting that is kept, and what it leaves.
use Rattle.std.proofs.Common.{◌≡◌, ◌≢◌, ◌⊎◌, inl, inr, ℕ, zero, suc, ◌+◌, ◌-◌, ◌<◌, ◌≤◌, min, Bool, true, false, not}
use Rattle.std.proofs.Common.{List, [], ◌∷◌, ◌++◌, length, set, get_or, Option, Some, None, slice_get, ◌==◌}
use Rattle.std.proofs.Common.{if◌then◌else◌, refl, sym, ◌∙◌, ap, subst, arith, get_or-set_same, get_or-set_other}
use Rattle.std.proofs.Common.{length-set}
use Rattle.std.specs.Int.{w8}
use Rattle.std.proofs.lemmas.Bool.Decides.{eqb_tells}
use Rattle.site_types.specs.declared.site.Site.{Site}
use Rattle.site_types.specs.declared.point.Point.{Point as PointPlan}
use Rattle.site_types.specs.declared.zone.Zone.{Zone as ZonePlan}
use Rattle.site_types.specs.declared.output.Output.{Output as OutputPlan}
use Rattle.site_types.specs.declared.point_set.PointSet.{PointSet}
use Rattle.site_types.specs.declared.retained.Retained.{Retained}
use Rattle.site_types.specs.declared.change.Change.{Change}
use Rattle.site_types.specs.declared.change.Change.TheVariants.{Point, Zone, Output, Delays, Count, Clear, Test}
use Rattle.site_types.specs.declared.item.Item.{Item}
use Rattle.site_types.specs.declared.item.Item.TheVariants.{Point as PointItem, Zone as ZoneItem, Output as OutputItem}
use Rattle.site_types.specs.declared.operation.Operation.{Operation}
use Rattle.site_types.specs.declared.operation.Operation.TheVariants.{Mute, Override, Silence, Resound, Reset, Cancel}
use Rattle.site_types.specs.declared.operation.Operation.TheVariants.{Disable, Enable, Test as SetTest, Untest}
use Rattle.site_types.specs.declared.operation.Operation.TheVariants.{Delays as SetDelays, Clear as ClearCounter}
use Rattle.site_types.specs.Bits.{IsPlace, has_bit, with_bit, with_point}
use Rattle.site_types.specs.Done.{Done, Setting, PointOff, ZoneOff, OutputOff, InTest, DelaysOff, Counter, no_points}
use Rattle.site_types.specs.Done.{same_setting, item_off, IsSetting, is_setting, is_on, operation_setting, value_set}
use Rattle.site_types.specs.Done.{at_opening, kept_point, kept_zone, kept_output, kept_test, is_kept_operation}
use Rattle.site_types.specs.Changes.{IsPanelNumber, CanApply, item_change, changed, changed_by, point_change}
use Rattle.site_types.specs.Changes.{zone_change, output_change, test_change, operation_change, IsSized, AreCounters}
use Rattle.site_types.specs.Changes.{HasOwnPlaces}
use Rattle.site_types.proofs.Keeping.{change_of}
use Rattle.site_types.specs.Limits.{greatest_count}
use Rattle.site_types.proofs.Masks.{with_bit-same, with_bit-other}
use Rattle.site_types.proofs.ChangedBits.{number-same, number-other, point-same, point-other}

-- what is kept of one thing of a list is as it was set, and of the others as it was
set_at : {X : Type 0} (xs : List X) (i j : ℕ) (x : X) (off : Bool) (was after : Option X → Bool) → slice_get xs i ≡ Some x → was None ≡ false
    → after None ≡ false → after (Some x) ≡ off → ((y : X) → slice_get xs j ≡ Some y → j ≢ i → after (Some y) ≡ was (Some y))
    → after (slice_get xs j) ≡ (if j == i then off else was (slice_get xs j))
set_at {X = X} xs i j x off was after is was_none after_none this others = go (eqb_tells j i) (slice_get xs j) refl
  where
    go : (((j == i) ≡ true) × (j ≡ i)) ⊎ (((j == i) ≡ false) × (j ≢ i)) → (o : Option X) → slice_get xs j ≡ o
        → after o ≡ (if j == i then off else was o)
    go (inl same) o e =
        ap after (sym e ∙ ap (slice_get xs) same.1 ∙ is) ∙ this ∙ sym (ap (λ b. if b then off else was o) same.0)
    go (inr other) None e = after_none ∙ sym (ap (λ b. if b then off else was None) other.0 ∙ was_none)
    go (inr other) (Some y) e = others y e other.1 ∙ sym (ap (λ b. if b then off else was (Some y)) other.0)

-- what the change of a point, a zone, an output, a test or delays makes of each setting
pub at_point : (site : Site) (kept : Retained) (i : ℕ) (p : PointPlan) (off : Bool) → HasOwnPlaces site → IsSized kept
    → slice_get site.points i ≡ Some p → (setting : Setting)
    → at_opening site (changed (Point p.panel p.line p.address off) kept) setting
    ≡ (if same_setting setting (PointOff i) then off else at_opening site kept setting)
at_point site kept i p off own sized is (PointOff j) =
    let here = own.point i p is in
    set_at site.points i j p off (kept_point kept) (kept_point (changed (Point p.panel p.line p.address off) kept)) is refl refl
    (point-same kept p.panel p.line p.address off sized here.0 here.1)
    (λ q e apart.
    let there = own.point j q e in
    point-other kept p.panel p.line p.address off sized here.0 here.1 q.panel q.line q.address there.0 there.1
    (λ a b c. apart (own.points_apart j i q p e is a b c)))
at_point site kept i p off own sized is (ZoneOff j) = refl
at_point site kept i p off own sized is (OutputOff j) = refl
at_point site kept i p off own sized is (InTest j) = refl
at_point site kept i p off own sized is (DelaysOff j) = refl
at_point site kept i p off own sized is (Counter j) = refl

pub at_zone : (site : Site) (kept : Retained) (i : ℕ) (z : ZonePlan) (off : Bool) → HasOwnPlaces site → IsSized kept → slice_get site.zones i ≡ Some z
    → (setting : Setting)
    → at_opening site (changed (Zone z.panel z.number off) kept) setting
    ≡ (if same_setting setting (ZoneOff i) then off else at_opening site kept setting)
at_zone site kept i z off own sized is (ZoneOff j) =
    let here = own.zone i z is in
    set_at site.zones i j z off (kept_zone kept) (kept_zone (changed (Zone z.panel z.number off) kept)) is refl refl
    (number-same kept.zones z.panel z.number off sized.zones here.0 here.1)
    (λ y e apart.
    let there = own.zone j y e in
    number-other kept.zones z.panel z.number off sized.zones here.0 here.1 y.panel y.number there.0 there.1
    (λ a b. apart (own.zones_apart j i y z e is a b)))
at_zone site kept i z off own sized is (PointOff j) = refl
at_zone site kept i z off own sized is (OutputOff j) = refl
at_zone site kept i z off own sized is (InTest j) = refl
at_zone site kept i z off own sized is (DelaysOff j) = refl
at_zone site kept i z off own sized is (Counter j) = refl

pub at_output : (site : Site) (kept : Retained) (i : ℕ) (o : OutputPlan) (off : Bool) → HasOwnPlaces site → IsSized kept
    → slice_get site.outputs i ≡ Some o → (setting : Setting)
    → at_opening site (changed (Output o.panel o.number off) kept) setting
    ≡ (if same_setting setting (OutputOff i) then off else at_opening site kept setting)
at_output site kept i o off own sized is (OutputOff j) =
    let here = own.output i o is in
    set_at site.outputs i j o off (kept_output kept) (kept_output (changed (Output o.panel o.number off) kept)) is refl refl
    (number-same kept.outputs o.panel o.number off sized.outputs here.0 here.1)
    (λ n e apart.
    let there = own.output j n e in
    number-other kept.outputs o.panel o.number off sized.outputs here.0 here.1 n.panel n.number there.0 there.1
    (λ a b. apart (own.outputs_apart j i n o e is a b)))
at_output site kept i o off own sized is (PointOff j) = refl
at_output site kept i o off own sized is (ZoneOff j) = refl
at_output site kept i o off own sized is (InTest j) = refl
at_output site kept i o off own sized is (DelaysOff j) = refl
at_output site kept i o off own sized is (Counter j) = refl

pub at_test : (site : Site) (kept : Retained) (i : ℕ) (z : ZonePlan) (on : Bool) → HasOwnPlaces site → IsSized kept → slice_get site.zones i ≡ Some z
    → (setting : Setting)
    → at_opening site (changed (Test z.panel z.number on) kept) setting
    ≡ (if same_setting setting (InTest i) then on else at_opening site kept setting)
at_test site kept i z on own sized is (InTest j) =
    let here = own.zone i z is in
    set_at site.zones i j z on (kept_test kept) (kept_test (changed (Test z.panel z.number on) kept)) is refl refl
    (number-same kept.tests z.panel z.number on sized.tests here.0 here.1)
    (λ y e apart.
    let there = own.zone j y e in
    number-other kept.tests z.panel z.number on sized.tests here.0 here.1 y.panel y.number there.0 there.1
    (λ a b. apart (own.zones_apart j i y z e is a b)))
at_test site kept i z on own sized is (PointOff j) = refl
at_test site kept i z on own sized is (ZoneOff j) = refl
at_test site kept i z on own sized is (OutputOff j) = refl
at_test site kept i z on own sized is (DelaysOff j) = refl
at_test site kept i z on own sized is (Counter j) = refl

at_delays : (site : Site) (kept : Retained) (panel : ℕ) (off : Bool) → IsPanelNumber panel → (setting : Setting) → IsSetting setting
    → at_opening site (changed (Delays panel off) kept) setting
    ≡ (if same_setting setting (DelaysOff panel) then off else at_opening site kept setting)
at_delays site kept panel off here (PointOff j) place = refl
at_delays site kept panel off here (ZoneOff j) place = refl
at_delays site kept panel off here (OutputOff j) place = refl
at_delays site kept panel off here (InTest j) place = refl
at_delays site kept panel off here (DelaysOff j) place = go (eqb_tells j panel)
  where
    go : (((j == panel) ≡ true) × (j ≡ panel)) ⊎ (((j == panel) ≡ false) × (j ≢ panel))
        → has_bit (with_bit w8 kept.delays_off (panel - 1) off) (j - 1) ≡ (if j == panel then off else has_bit kept.delays_off (j - 1))
    go (inl same) =
        ap (λ k. has_bit (with_bit w8 kept.delays_off (panel - 1) off) (k - 1)) same.1
        ∙ with_bit-same w8 kept.delays_off (panel - 1) off (omega (arith, here.0, here.1))
        ∙ sym (ap (λ b. if b then off else has_bit kept.delays_off (j - 1)) same.0)
    go (inr other) =
        let far = other.1 in
        let ne : j - 1 ≢ panel - 1 = (λ h. far (omega (arith, h, here.0, place.0))) in
        with_bit-other w8 kept.delays_off (panel - 1) off (omega (arith, here.0, here.1)) (j - 1) (omega (arith, place.0, place.1)) ne
        ∙ sym (ap (λ b. if b then off else has_bit kept.delays_off (j - 1)) other.0)
at_delays site kept panel off here (Counter j) place = refl

-- the clearing of a counter makes nothing of a setting, nor does counting
at_clear : (site : Site) (kept : Retained) (panel : ℕ) (setting : Setting)
    → at_opening site (changed (Clear panel) kept) setting ≡ (if same_setting setting (Counter panel) then false else at_opening site kept setting)
at_clear site kept panel (PointOff j) = refl
at_clear site kept panel (ZoneOff j) = refl
at_clear site kept panel (OutputOff j) = refl
at_clear site kept panel (InTest j) = refl
at_clear site kept panel (DelaysOff j) = refl
at_clear site kept panel (Counter j) = go (j == panel)
  where
    go : (b : Bool) → false ≡ (if b then false else false)
    go true = refl
    go false = refl

pub counted-setting : (site : Site) (kept : Retained) (panel entries : ℕ) (setting : Setting)
    → at_opening site (changed (Count panel entries) kept) setting ≡ at_opening site kept setting
counted-setting site kept panel entries (PointOff j) = refl
counted-setting site kept panel entries (ZoneOff j) = refl
counted-setting site kept panel entries (OutputOff j) = refl
counted-setting site kept panel entries (InTest j) = refl
counted-setting site kept panel entries (DelaysOff j) = refl
counted-setting site kept panel entries (Counter j) = refl

some_is : {X : Type 0} (x y : X) → Some x ≡ Some y → x ≡ y
some_is x y e = cc

-- what an operation makes of a setting of a site
abbrev then_set : Site → Retained → ℕ → Operation → Setting → Bool
then_set site kept panel operation setting =
    if is_setting setting (operation_setting panel operation) then value_set operation else at_opening site kept setting

-- what holds of the change of each thing at a place holds of the change that is made there
made_there : {X : Type 0} (P : Change → Type 0) (change_of : Option X → Option Change) (make : X → Change) (o : Option X) (change : Change)
    → change_of None ≡ None → ((x : X) → change_of (Some x) ≡ Some (make x)) → ((x : X) → o ≡ Some x → P (make x)) → change_of o ≡ Some change
    → P change
made_there P change_of make None change none some each e = absurd (cc)
made_there P change_of make (Some x) change none some each e = subst P (some_is (make x) change (sym (some x) ∙ e)) (each x refl)

-- what holds of the change of each item of a site, and of that of each test
item_made : (P : Change → Type 0) (site : Site) (item : Item) (off : Bool) (change : Change)
    → ((i : ℕ) (p : PointPlan) → item ≡ PointItem i → slice_get site.points i ≡ Some p → P (Point p.panel p.line p.address off))
    → ((i : ℕ) (z : ZonePlan) → item ≡ ZoneItem i → slice_get site.zones i ≡ Some z → P (Zone z.panel z.number off))
    → ((i : ℕ) (o : OutputPlan) → item ≡ OutputItem i → slice_get site.outputs i ≡ Some o → P (Output o.panel o.number off))
    → item_change site item off ≡ Some change → P change
item_made P site (PointItem i) off change point zone output e =
    made_there P (λ o. point_change o off) (λ (p : PointPlan). Point p.panel p.line p.address off) (slice_get site.points i) change refl (λ p. refl)
    (λ p is. point i p refl is) e
item_made P site (ZoneItem i) off change point zone output e =
    made_there P (λ o. zone_change o off) (λ (z : ZonePlan). Zone z.panel z.number off) (slice_get site.zones i) change refl (λ z. refl)
    (λ z is. zone i z refl is) e
item_made P site (OutputItem i) off change point zone output e =
    made_there P (λ o. output_change o off) (λ (o : OutputPlan). Output o.panel o.number off) (slice_get site.outputs i) change refl (λ o. refl)
    (λ o is. output i o refl is) e

test_made : (P : Change → Type 0) (site : Site) (zone : ℕ) (on : Bool) (change : Change)
    → ((z : ZonePlan) → slice_get site.zones zone ≡ Some z → P (Test z.panel z.number on)) → test_change (slice_get site.zones zone) on ≡ Some change
    → P change
test_made P site zone on change each e =
    made_there P (λ o. test_change o on) (λ (z : ZonePlan). Test z.panel z.number on) (slice_get site.zones zone) change refl (λ z. refl) each e

-- what the change of an item makes of each setting, and that of a test
item_set : (site : Site) (kept : Retained) (item : Item) (off : Bool) (change : Change) → HasOwnPlaces site → IsSized kept
    → item_change site item off ≡ Some change → (setting : Setting)
    → at_opening site (changed change kept) setting ≡ (if same_setting setting (item_off item) then off else at_opening site kept setting)
item_set site kept item off change own sized e setting =
    item_made
    (λ c. at_opening site (changed c kept) setting ≡ (if same_setting setting (item_off item) then off else at_opening site kept setting))
    site item off change
    (λ i p this is. at_point site kept i p off own sized is setting ∙ sym (by this))
    (λ i z this is. at_zone site kept i z off own sized is setting ∙ sym (by this))
    (λ i o this is. at_output site kept i o off own sized is setting ∙ sym (by this)) e
  where
    by : {other : Item} → item ≡ other
        → (if same_setting setting (item_off item) then off else at_opening site kept setting)
        ≡ (if same_setting setting (item_off other) then off else at_opening site kept setting)
    by this = ap (λ x. if same_setting setting (item_off x) then off else at_opening site kept setting) this

test_set : (site : Site) (kept : Retained) (i : ℕ) (on : Bool) (change : Change) → HasOwnPlaces site → IsSized kept
    → test_change (slice_get site.zones i) on ≡ Some change → (setting : Setting)
    → at_opening site (changed change kept) setting ≡ (if same_setting setting (InTest i) then on else at_opening site kept setting)
test_set site kept i on change own sized e setting =
    test_made (λ c. at_opening site (changed c kept) setting ≡ (if same_setting setting (InTest i) then on else at_opening site kept setting)) site i
    on change (λ z is. at_test site kept i z on own sized is setting) e

by_operation : (site : Site) (kept : Retained) (panel : ℕ) (operation : Operation) (change : Change) → HasOwnPlaces site → IsSized kept
    → IsPanelNumber panel → operation_change site panel operation ≡ Some change → (setting : Setting) → IsSetting setting
    → at_opening site (changed change kept) setting ≡ then_set site kept panel operation setting
by_operation site kept panel Mute change own sized here e setting place = absurd (cc)
by_operation site kept panel Override change own sized here e setting place = absurd (cc)
by_operation site kept panel Silence change own sized here e setting place = absurd (cc)
by_operation site kept panel Resound change own sized here e setting place = absurd (cc)
by_operation site kept panel Reset change own sized here e setting place = absurd (cc)
by_operation site kept panel (Cancel zone) change own sized here e setting place = absurd (cc)
by_operation site kept panel (Disable item) change own sized here e setting place = item_set site kept item true change own sized e setting
by_operation site kept panel (Enable item) change own sized here e setting place = item_set site kept item false change own sized e setting
by_operation site kept panel (SetTest i) change own sized here e setting place = test_set site kept i true change own sized e setting
by_operation site kept panel (Untest i) change own sized here e setting place = test_set site kept i false change own sized e setting
by_operation site kept panel (SetDelays on) change own sized here e setting place =
    ap (λ c. at_opening site (changed c kept) setting) (sym (some_is (Delays panel (not on)) change e)) ∙ at_delays site kept panel (not on) here
    setting place
by_operation site kept panel ClearCounter change own sized here e setting place =
    ap (λ c. at_opening site (changed c kept) setting) (sym (some_is (Clear panel) change e)) ∙ at_clear site kept panel setting

-- after the change of an operation its setting is kept as the operation sets it, and all others as they were
pub kept-change : (site : Site) (kept : Retained) (d : Done) (change : Change) → HasOwnPlaces site → IsSized kept → IsPanelNumber d.panel
    → change_of site d ≡ Some change → (setting : Setting) → IsSetting setting
    → at_opening site (changed change kept) setting ≡ (if is_on setting d then value_set d.operation else at_opening site kept setting)
kept-change site kept d change own sized here e setting place = by_operation site kept d.panel d.operation change own sized here e setting place

-- what holds of each item of a list holds after one is set to another of which it holds
each_set : {X : Type 0} (P : X → Type 0) (xs : List X) (n i : ℕ) (y d : X) → length xs ≡ n → P y → ((k : ℕ) → k < n → P (get_or xs k d)) → (k : ℕ)
    → k < n → P (get_or (set xs i y) k d)
each_set P xs n i y d size new old k small = go (eqb_tells k i)
  where
    go : (((k == i) ≡ true) × (k ≡ i)) ⊎ (((k == i) ≡ false) × (k ≢ i)) → P (get_or (set xs i y) k d)
    go (inl same) =
        subst P (sym (ap (λ j. get_or (set xs i y) j d) same.1 ∙ get_or-set_same xs i y d (let e = same.1 in omega (arith, small, size, e)))) new
    go (inr other) = subst P (sym (get_or-set_other xs i k y d other.1)) (old k small)

-- a change leaves each list as long as it was
sized_points : (kept : Retained) (panel line address : ℕ) (off : Bool) → IsSized kept → IsPanelNumber panel → IsPlace line address
    → IsSized (changed (Point panel line address off) kept)
sized_points kept panel line address off sized here place = record {
  points = length-set kept.points (panel - 1) (with_point (get_or kept.points (panel - 1) no_points) line address off) ∙ sized.points;
  loops =
      each_set (λ (s : PointSet). length s.loops ≡ 4) kept.points 8 (panel - 1)
      (with_point (get_or kept.points (panel - 1) no_points) line address off) no_points sized.points
      (length-set (get_or kept.points (panel - 1) no_points).loops (line - 1) _ ∙ loops) sized.loops;
  halves = λ k l small small'.
      each_set (λ (s : PointSet). (j : ℕ) → j < 4 → length (get_or s.loops j []) ≡ 2) kept.points 8 (panel - 1)
      (with_point (get_or kept.points (panel - 1) no_points) line address off) no_points sized.points
      (each_set (λ (h : List ℕ). length h ≡ 2) (get_or kept.points (panel - 1) no_points).loops 4 (line - 1) _ [] loops
      (length-set (get_or (get_or kept.points (panel - 1) no_points).loops (line - 1) []) _ _ ∙ halves (line - 1)
      (omega (arith, place.0, place.1))) halves)
      (λ j near i near'. sized.halves j i near near') k small l small';
  zones = sized.zones;
  outputs = sized.outputs;
  counters = sized.counters;
  tests = sized.tests;
}
  where
    loops : length (get_or kept.points (panel - 1) no_points).loops ≡ 4
    loops = sized.loops (panel - 1) (omega (arith, here.0, here.1))

    halves : (l : ℕ) → l < 4 → length (get_or (get_or kept.points (panel - 1) no_points).loops l []) ≡ 2
    halves l near = sized.halves (panel - 1) l (omega (arith, here.0, here.1)) near

-- with the same points, it is the lengths of the other lists that tell
with_points : (kept new : Retained) → IsSized kept → new.points ≡ kept.points → length new.zones ≡ 8 → length new.outputs ≡ 8
    → length new.counters ≡ 8 → length new.tests ≡ 8 → IsSized new
with_points kept new sized same zones outputs counters tests = record {
  points = ap length same ∙ sized.points;
  loops = λ k small. ap (λ ps. length (get_or ps k no_points).loops) same ∙ sized.loops k small;
  halves = λ k l small small'. ap (λ ps. length (get_or (get_or ps k no_points).loops l [])) same ∙ sized.halves k l small small';
  zones = zones;
  outputs = outputs;
  counters = counters;
  tests = tests;
}

pub sized-changed : (change : Change) (kept : Retained) → CanApply change → IsSized kept → IsSized (changed change kept)
sized-changed (Point panel line address off) kept can sized = sized_points kept panel line address off sized can.0 can.1
sized-changed (Zone panel number off) kept can sized =
    with_points kept _ sized refl (length-set kept.zones (panel - 1) _ ∙ sized.zones) sized.outputs sized.counters sized.tests
sized-changed (Output panel number off) kept can sized =
    with_points kept _ sized refl sized.zones (length-set kept.outputs (panel - 1) _ ∙ sized.outputs) sized.counters sized.tests
sized-changed (Delays panel off) kept can sized = with_points kept _ sized refl sized.zones sized.outputs sized.counters sized.tests
sized-changed (Count panel entries) kept can sized =
    with_points kept _ sized refl sized.zones sized.outputs (length-set kept.counters (panel - 1) _ ∙ sized.counters) sized.tests
sized-changed (Clear panel) kept can sized =
    with_points kept _ sized refl sized.zones sized.outputs (length-set kept.counters (panel - 1) _ ∙ sized.counters) sized.tests
sized-changed (Test panel number on) kept can sized =
    with_points kept _ sized refl sized.zones sized.outputs sized.counters (length-set kept.tests (panel - 1) _ ∙ sized.tests)

set_below : (xs : List ℕ) (i n : ℕ) → n ≤ greatest_count → AreCounters xs → AreCounters (set xs i n)
set_below xs i n le all k = go (eqb_tells k i)
  where
    past : (ys : List ℕ) (m : ℕ) → get_or (set ys m n) m 0 ≤ greatest_count
    past [] m = omega arith
    past (y ∷ ys) zero = le
    past (y ∷ ys) (suc m) = past ys m

    go : (((k == i) ≡ true) × (k ≡ i)) ⊎ (((k == i) ≡ false) × (k ≢ i)) → get_or (set xs i n) k 0 ≤ greatest_count
    go (inl same) = let h = past xs i in let e = ap (λ j. get_or (set xs i n) j 0) same.1 in omega (arith, h, e)
    go (inr other) = let h = all k in let e = get_or-set_other xs i k n 0 other.1 in omega (arith, h, e)

-- no change takes a counter past its end
pub counters-changed : (change : Change) (kept : Retained) → AreCounters kept.counters → AreCounters (changed change kept).counters
counters-changed (Point panel line address off) kept all = all
counters-changed (Zone panel number off) kept all = all
counters-changed (Output panel number off) kept all = all
counters-changed (Delays panel off) kept all = all
counters-changed (Count panel entries) kept all =
    set_below kept.counters (panel - 1) (min (get_or kept.counters (panel - 1) 0 + entries) greatest_count) (omega arith) all
counters-changed (Clear panel) kept all = set_below kept.counters (panel - 1) 0 (omega arith) all
counters-changed (Test panel number on) kept all = all

-- changes one list after another
pub changed_by-append : (xs ys : List Change) (kept : Retained) → changed_by (xs ++ ys) kept ≡ changed_by ys (changed_by xs kept)
changed_by-append [] ys kept = refl
changed_by-append (x ∷ xs) ys kept = changed_by-append xs ys (changed x kept)

-- an operation on a setting of the site makes a change that has a place, and no other operation makes one
can_item : (site : Site) (item : Item) (off : Bool) (change : Change) → HasOwnPlaces site → item_change site item off ≡ Some change → CanApply change
can_item site item off change own e =
    item_made CanApply site item off change (λ i p this is. let h = own.point i p is in (h.0, h.1)) (λ i z this is. let h = own.zone i z is in (h.0, h.1))
    (λ i o this is. let h = own.output i o is in (h.0, h.1)) e

can_test : (site : Site) (zone : ℕ) (on : Bool) (change : Change) → HasOwnPlaces site → test_change (slice_get site.zones zone) on ≡ Some change
    → CanApply change
can_test site zone on change own e = test_made CanApply site zone on change (λ z is. let h = own.zone zone z is in (h.0, h.1)) e

pub can_apply : (site : Site) (panel : ℕ) (operation : Operation) (change : Change) → HasOwnPlaces site → IsPanelNumber panel
    → operation_change site panel operation ≡ Some change → CanApply change
can_apply site panel Mute change own here e = absurd (cc)
can_apply site panel Override change own here e = absurd (cc)
can_apply site panel Silence change own here e = absurd (cc)
can_apply site panel Resound change own here e = absurd (cc)
can_apply site panel Reset change own here e = absurd (cc)
can_apply site panel (Cancel zone) change own here e = absurd (cc)
can_apply site panel (Disable item) change own here e = can_item site item true change own e
can_apply site panel (Enable item) change own here e = can_item site item false change own e
can_apply site panel (SetTest zone) change own here e = can_test site zone true change own e
can_apply site panel (Untest zone) change own here e = can_test site zone false change own e
can_apply site panel (SetDelays on) change own here e = subst CanApply (some_is _ change e) here
can_apply site panel ClearCounter change own here e = subst CanApply (some_is _ change e) here

-- an operation that is not kept is on no setting and makes no change
pub not_kept : (site : Site) (panel : ℕ) (operation : Operation) → is_kept_operation operation ≡ false → (operation_setting panel operation ≡ None)
    × (operation_change site panel operation ≡ None)
not_kept site panel Mute e = (refl, refl)
not_kept site panel Override e = (refl, refl)
not_kept site panel Silence e = (refl, refl)
not_kept site panel Resound e = (refl, refl)
not_kept site panel Reset e = (refl, refl)
not_kept site panel (Cancel zone) e = (refl, refl)
not_kept site panel (Disable item) e = absurd (cc)
not_kept site panel (Enable item) e = absurd (cc)
not_kept site panel (SetTest zone) e = absurd (cc)
not_kept site panel (Untest zone) e = absurd (cc)
not_kept site panel (SetDelays on) e = absurd (cc)
not_kept site panel ClearCounter e = absurd (cc)
