-- The counters add up.
use Rattle.std.proofs.Common.{◌≡◌, ◌≢◌, ◌∙◌, inl, inr, ◌≤◌, ◌<◌, ◌+◌, ◌-◌, ◌==◌, ◌&&◌, ◌++◌, ℕ, zero, suc, min, Bool}
use Rattle.std.proofs.Common.{true, false, List, [], ◌∷◌, Option, Some, None, length, refl, sym, ap, subst, arith}
use Rattle.std.proofs.Common.{get_or-set_same, get_or-set_other, length-set}
use Rattle.std.specs.Prelude.{◌||◌, slice_get}
use Rattle.std.specs.List.{AllByRecursion, flat_map, list_any, range_with_len}
use Rattle.std.proofs.lemmas.Bool.Decides.{eqb_tells}
use Rattle.site_types.specs.declared.change.Change.{Change}
use Rattle.site_types.specs.declared.change.Change.TheVariants.{Point, Zone, Output, Delays as DelaysChange, Count, Clear as ClearChange, Test as TestChange}
use Rattle.site_types.specs.declared.item.Item.{Item}
use Rattle.site_types.specs.declared.item.Item.TheVariants.{Point as PointItem, Zone as ZoneItem, Output as OutputItem}
use Rattle.site_types.specs.declared.operation.Operation.{Operation}
use Rattle.site_types.specs.declared.operation.Operation.TheVariants.{Mute, Override, Silence, Resound, Reset, Cancel, Disable, Enable, Test, Untest, Delays, Clear}
use Rattle.site_types.specs.declared.output.Output.{Output as OutputPlan}
use Rattle.site_types.specs.declared.point.Point.{Point as PointPlan}
use Rattle.site_types.specs.declared.retained.Retained.{Retained}
use Rattle.site_types.specs.declared.site.Site.{Site}
use Rattle.site_types.specs.declared.zone.Zone.{Zone as ZonePlan}
use Rattle.site_types.specs.Changes.{AreCounters, changed, changed_by, item_change, operation_change, output_change, point_change, test_change, zone_change}
use Rattle.site_types.specs.Done.{Done}
use Rattle.site_types.specs.Limits.{greatest_count}
use Rattle.site_types.proofs.Changes.{changed_by-append, counters-changed}
use Rattle.panel_rules.specs.Moments.{Moment, Began, Happened, Turned, Kept, IsPanel, tick_of}
use Rattle.panel_rules.specs.Operations.{Request, done_in, do_all, operations}
use Rattle.panel_rules.specs.Batches.{batch, changes_of, count_of, counts, kept_after, new_entries}
use Rattle.panel_rules.specs.Faces.{counter_in}
use Rattle.panel_laws.specs.TimelineLaws.{CountersAddUp, clears_counter, counted_entries, is_clearing}
use Rattle.panel_laws.proofs.LaterDone.{Grew, counted_same, new_same, next_grew}

-- ---- counters under changes

length_changed : (change : Change) (kept : Retained) → length kept.counters ≡ 8 → length (changed change kept).counters ≡ 8
length_changed (Point panel line address off) kept l = l
length_changed (Zone panel number off) kept l = l
length_changed (Output panel number off) kept l = l
length_changed (DelaysChange panel off) kept l = l
length_changed (Count panel entries) kept l = length-set kept.counters (panel - 1) _ ∙ l
length_changed (ClearChange panel) kept l = length-set kept.counters (panel - 1) 0 ∙ l
length_changed (TestChange panel number on) kept l = l

-- counters are as many as ever, and none is past its end
pub record AreWhole (kept : Retained) : Type 0 where
  pub long : length kept.counters ≡ 8
  pub small : AreCounters kept.counters

whole_changed : (changes : List Change) (kept : Retained) → AreWhole kept → AreWhole (changed_by changes kept)
whole_changed [] kept h = h
whole_changed (change ∷ changes) kept h =
    whole_changed changes (changed change kept) (record { long = length_changed change kept h.long; small = counters-changed change kept h.small })

pub whole_after : (site : Site) (kept : Retained) (moments : List Moment) → AreWhole kept → AreWhole (kept_after site kept moments)
whole_after site kept [] h = h
whole_after site kept (Began ∷ before) h = whole_after site kept before h
whole_after site kept (Happened event ∷ before) h = whole_after site kept before h
whole_after site kept (Turned panel task ∷ before) h = whole_after site kept before h
whole_after site kept (Kept true ∷ before) h = whole_after site kept before h
whole_after site kept (Kept false ∷ before) h = whole_changed (batch site kept before) (kept_after site kept before) (whole_after site kept before h)

-- ---- what counts adds

none_more : (n : ℕ) → n ≤ greatest_count → n ≡ min (n + 0) greatest_count
none_more n l = omega (arith, l)

module _ (panel : ℕ) (one : 1 ≤ panel) (few : panel ≤ 8) where
  other_count : (site : Site) (kept : Retained) (done : List Done) (p : ℕ) (ticks : List ℕ) (stored : Retained) → 1 ≤ p → p ≢ panel →
      counter_in panel (changed_by (count_of site kept done p ticks) stored) ≡ counter_in panel stored
  other_count site kept done p [] stored least apart = refl
  other_count site kept done p (tick ∷ ticks) stored least apart =
      get_or-set_other stored.counters (p - 1) (panel - 1) _ 0 (λ same. apart (omega (arith, least, one, same)))

  own_count : (site : Site) (kept : Retained) (done : List Done) (ticks : List ℕ) (stored : Retained) → AreWhole stored →
      counter_in panel (changed_by (count_of site kept done panel ticks) stored) ≡ min (counter_in panel stored + length ticks) greatest_count
  own_count site kept done [] stored h = none_more (counter_in panel stored) (h.small (panel - 1))
  own_count site kept done (tick ∷ ticks) stored h = get_or-set_same stored.counters (panel - 1) _ 0 (let l = h.long in omega (arith, one, few, l))

  module _ (site : Site) (kept : Retained) (done : List Done) (before : List Moment) where
    behind : (first many : ℕ) (stored : Retained) → 1 ≤ first → panel < first
        → counter_in panel (changed_by (flat_map (λ p. count_of site kept done p (new_entries site kept done p before)) (range_with_len first many))
        stored) ≡ counter_in panel stored
    behind first zero stored least far = refl
    behind first (suc many) stored least far =
        ap (counter_in panel) (changed_by-append (count_of site kept done first (new_entries site kept done first before))
        (flat_map (λ p. count_of site kept done p (new_entries site kept done p before)) (range_with_len (first + 1) many)) stored)
        ∙ behind (first + 1) many (changed_by (count_of site kept done first (new_entries site kept done first before)) stored) (omega (arith, least))
        (omega (arith, far))
        ∙ other_count site kept done first (new_entries site kept done first before) stored least (λ same. omega (arith, far, same))

    pub within : (first many : ℕ) (stored : Retained) → 1 ≤ first → first ≤ panel → panel < first + many → AreWhole stored →
        counter_in panel (changed_by (flat_map (λ p. count_of site kept done p (new_entries site kept done p before)) (range_with_len first many))
        stored) ≡ min (counter_in panel stored + length (new_entries site kept done panel before)) greatest_count
    within first zero stored least low high h = absurd (omega (arith, low, high))
    within first (suc many) stored least low high h =
        ap (counter_in panel) (changed_by-append (count_of site kept done first (new_entries site kept done first before))
        (flat_map (λ p. count_of site kept done p (new_entries site kept done p before)) (range_with_len (first + 1) many)) stored)
        ∙ elim (eqb_tells first panel) [
          | inl e ↦ (
              behind (first + 1) many (changed_by (count_of site kept done first (new_entries site kept done first before)) stored)
              (omega (arith, least)) (let same = e.1 in omega (arith, same))
              ∙ subst (λ p. counter_in panel (changed_by (count_of site kept done p (new_entries site kept done p before)) stored)
              ≡ min (counter_in panel stored + length (new_entries site kept done panel before)) greatest_count) (sym e.1)
              (own_count site kept done (new_entries site kept done panel before) stored h)
              )
          | inr e ↦ (
              within (first + 1) many (changed_by (count_of site kept done first (new_entries site kept done first before)) stored)
              (omega (arith, least)) (let apart = e.1 in omega (arith, low, apart)) (omega (arith, high))
              (whole_changed (count_of site kept done first (new_entries site kept done first before)) stored h)
              ∙ ap (λ n. min (n + length (new_entries site kept done panel before)) greatest_count)
              (other_count site kept done first (new_entries site kept done first before) stored least e.1)
              )
        ]

-- ---- what operations leave

some_is : (c d : Change) → Some c ≡ Some d → c ≡ d
some_is c d e = cc

abbrev Leaves : ℕ → Change → Type 0
Leaves panel change = (stored : Retained) → counter_in panel (changed change stored) ≡ counter_in panel stored

module _ (panel : ℕ) where
  from_point : (o : Option PointPlan) (off : Bool) (c : Change) → point_change o off ≡ Some c → Leaves panel c
  from_point None off c e = cc
  from_point (Some p) off c e = subst (Leaves panel) (some_is _ c e) (λ stored. refl)

  from_zone : (o : Option ZonePlan) (off : Bool) (c : Change) → zone_change o off ≡ Some c → Leaves panel c
  from_zone None off c e = cc
  from_zone (Some p) off c e = subst (Leaves panel) (some_is _ c e) (λ stored. refl)

  from_output : (o : Option OutputPlan) (off : Bool) (c : Change) → output_change o off ≡ Some c → Leaves panel c
  from_output None off c e = cc
  from_output (Some p) off c e = subst (Leaves panel) (some_is _ c e) (λ stored. refl)

  from_test : (o : Option ZonePlan) (on : Bool) (c : Change) → test_change o on ≡ Some c → Leaves panel c
  from_test None on c e = cc
  from_test (Some p) on c e = subst (Leaves panel) (some_is _ c e) (λ stored. refl)

  from_item : (site : Site) (item : Item) (off : Bool) (c : Change) → item_change site item off ≡ Some c → Leaves panel c
  from_item site (PointItem point) off c e = from_point (slice_get site.points point) off c e
  from_item site (ZoneItem zone) off c e = from_zone (slice_get site.zones zone) off c e
  from_item site (OutputItem output) off c e = from_output (slice_get site.outputs output) off c e

  apart_from : (a b : ℕ) → (a == b) ≡ false → b ≢ a
  apart_from a b e same = elim (eqb_tells a b) [
    | inl h ↦ (let no_way : true ≡ false = sym h.0 ∙ e in cc)
    | inr h ↦ h.1 (sym same)
  ]

  from_operation : (site : Site) (p : ℕ) (operation : Operation) (c : Change) → operation_change site p operation ≡ Some c
      → (is_clearing operation && (p - 1 == panel - 1)) ≡ false → Leaves panel c
  from_operation site p (Disable item) c e f = from_item site item true c e
  from_operation site p (Enable item) c e f = from_item site item false c e
  from_operation site p (Test zone) c e f = from_test (slice_get site.zones zone) true c e
  from_operation site p (Untest zone) c e f = from_test (slice_get site.zones zone) false c e
  from_operation site p (Delays on) c e f = subst (Leaves panel) (some_is _ c e) (λ stored. refl)
  from_operation site p Clear c e f =
      subst (Leaves panel) (some_is _ c e) (λ stored. get_or-set_other stored.counters (p - 1) (panel - 1) 0 0 (apart_from (p - 1) (panel - 1) f))
  from_operation site p Mute c e f = cc
  from_operation site p Override c e f = cc
  from_operation site p Silence c e f = cc
  from_operation site p Resound c e f = cc
  from_operation site p Reset c e f = cc
  from_operation site p (Cancel zone) c e f = cc

  pub none_of : (a b : Bool) → (a || b) ≡ false → (a ≡ false) × (b ≡ false)
  none_of true b e = cc
  none_of false b e = (refl, e)

  -- none of what waits clears the counter
  none_clears : (tick : ℕ) (waiting : List Request) (done : List Done) → list_any (clears_counter panel) (do_all tick waiting done) ≡ false →
      (list_any (clears_counter panel) done ≡ false) × AllByRecursion (λ (r : Request). clears_counter panel (done_in tick r) ≡ false) waiting
  none_clears tick [] done e = (e, tt)
  none_clears tick (r ∷ waiting) done e =
      let h = none_clears tick waiting (done_in tick r ∷ done) e in
      let g = none_of (clears_counter panel (done_in tick r)) (list_any (clears_counter panel) done) h.0 in
      (g.1, (g.0, h.1))

  operations_leave : (site : Site) (tick : ℕ) (waiting : List Request) (stored : Retained)
      → AllByRecursion (λ (r : Request). clears_counter panel (done_in tick r) ≡ false) waiting →
      counter_in panel (changed_by (changes_of site waiting) stored) ≡ counter_in panel stored
  operations_leave site tick [] stored all = refl
  operations_leave site tick (r ∷ waiting) stored all =
      go (operation_change site r.panel r.operation) refl (λ s. operations_leave site tick waiting s all.1)
    where
      with_first : Option Change → List Change
      with_first None = changes_of site waiting
      with_first (Some c) = c ∷ changes_of site waiting

      split : (o : Option Change) → operation_change site r.panel r.operation ≡ o → changes_of site (r ∷ waiting) ≡ with_first o
      split None e = rw e refl
      split (Some c) e = rw e refl

      go : (o : Option Change) → operation_change site r.panel r.operation ≡ o
          → ((s : Retained) → counter_in panel (changed_by (changes_of site waiting) s) ≡ counter_in panel s) →
          counter_in panel (changed_by (changes_of site (r ∷ waiting)) stored) ≡ counter_in panel stored
      go None e ih = ap (λ cs. counter_in panel (changed_by cs stored)) (split None e) ∙ ih stored
      go (Some c) e ih =
          ap (λ cs. counter_in panel (changed_by cs stored)) (split (Some c) e) ∙ ih (changed c stored) ∙ from_operation site r.panel r.operation c e
          all.0 stored

-- ---- the whole

pub twice : (a n : ℕ) → min (min a greatest_count + n) greatest_count ≡ min (a + n) greatest_count
twice a n = omega arith

neither_of : (a b : Bool) → (a || b) ≡ false → b ≡ false
neither_of true b e = cc
neither_of false b e = e

none_earlier : (test : Done → Bool) (new old : List Done) → list_any test (new ++ old) ≡ false → list_any test old ≡ false
none_earlier test [] old e = e
none_earlier test (d ∷ new) old e = none_earlier test new old (neither_of (test d) (list_any test (new ++ old)) e)

module _ (site : Site) (kept : Retained) (panel : ℕ) (few : site.panels ≤ 8) (own : IsPanel site.panels panel) (whole : AreWhole kept) where
  abbrev Adds : List Moment → List Done → Type 0
  Adds moments done =
      counter_in panel (kept_after site kept moments) ≡ min (counter_in panel kept + counted_entries site kept done panel moments) greatest_count

  -- the same by what was done a little later
  carry : (before : List Moment) (after : List Done) → Grew (operations site kept before).done after (tick_of before)
      → list_any (clears_counter panel) after ≡ false →
      (list_any (clears_counter panel) (operations site kept before).done ≡ false → Adds before (operations site kept before).done)
      → Adds before after
  carry before after grew none ih =
      let old = (operations site kept before).done in
      let earlier = none_earlier (clears_counter panel) grew.new old (subst (λ done. list_any (clears_counter panel) done ≡ false) grew.is none) in
      ih earlier ∙ ap (λ n. min (counter_in panel kept + n) greatest_count)
      (sym (ap (λ done. counted_entries site kept done panel before) grew.is ∙ counted_same site kept grew.new old (tick_of before) grew.from panel
      before (omega arith)))

  adds : (moments : List Moment) → list_any (clears_counter panel) (operations site kept moments).done ≡ false
      → Adds moments (operations site kept moments).done
  adds [] none = none_more (counter_in panel kept) (whole.small (panel - 1))
  adds (Began ∷ before) none = carry before _ (next_grew site kept Began before) none (adds before)
  adds (Happened event ∷ before) none = carry before _ (next_grew site kept (Happened event) before) none (adds before)
  adds (Turned p task ∷ before) none = carry before _ (next_grew site kept (Turned p task) before) none (adds before)
  adds (Kept true ∷ before) none = carry before _ (next_grew site kept (Kept true) before) none (adds before)
  adds (Kept false ∷ before) none =
      let so_far = operations site kept before in
      let stored = kept_after site kept before in
      let after = do_all (tick_of before) so_far.waiting so_far.done in
      let grew = next_grew site kept (Kept false) before in
      let was = carry before after grew none (adds before) in
      let fresh = new_entries site kept so_far.done panel before in
      let waits = none_clears panel (tick_of before) so_far.waiting so_far.done none in
      let counted = within panel own.0 (let p = own.1 in omega (arith, p, few)) site kept so_far.done before 1 site.panels stored (omega arith) own.0
      (let p = own.1 in omega (arith, p)) (whole_after site kept before whole) in
      ap (counter_in panel) (changed_by-append (counts site kept so_far.done before) (changes_of site so_far.waiting) stored)
      ∙ operations_leave panel site (tick_of before) so_far.waiting (changed_by (counts site kept so_far.done before) stored) waits.1
      ∙ counted
      ∙ ap (λ n. min (n + length fresh) greatest_count) was
      ∙ twice (counter_in panel kept + counted_entries site kept after panel before) (length fresh)
      ∙ ap (λ n. min n greatest_count) (plus (counter_in panel kept) (counted_entries site kept after panel before) (length fresh))
      ∙ ap (λ xs. min (counter_in panel kept + (counted_entries site kept after panel before + length xs)) greatest_count)
      (sym (ap (λ done. new_entries site kept done panel before) grew.is ∙ new_same site kept grew.new so_far.done (tick_of before) grew.from panel
      before (omega arith)))
    where
      plus : (a b c : ℕ) → (a + b) + c ≡ a + (b + c)
      plus a b c = omega arith

pub add_up : CountersAddUp
add_up site kept moments panel few own long small none = adds site kept panel few own (record { long = long; small = small }) moments none
