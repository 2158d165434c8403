-- A counter that was cleared counts from 0.
use Rattle.std.proofs.Common.{◌≡◌, ◌∙◌, inl, inr, ◌≤◌, ◌+◌, ◌-◌, ℕ, zero, suc, min, Bool, true, false, List, [], ◌∷◌, Option, Some, None, length, refl, sym, ap, arith, get_or-set_other}
use Rattle.std.specs.Prelude.{◌||◌, slice_get, slice_index, slice_set}
use Rattle.std.specs.List.{AllByRecursion, cons_option, flat_map, list_any, range_with_len}
use Rattle.std.proofs.lemmas.Bool.Decides.{eqb_tells}
use Rattle.std.proofs.lemmas.List.Folds.{list_any-append}
use Rattle.site_types.specs.declared.change.Change.{Change}
use Rattle.site_types.specs.declared.change.Change.TheVariants.{Point, Zone, Output, Delays as DelaysChange, Count, Clear as ClearChange, Test as TestChange}
use Rattle.site_types.specs.declared.item.Item.{Item}
use Rattle.site_types.specs.declared.item.Item.TheVariants.{Point as PointItem, Zone as ZoneItem, Output as OutputItem}
use Rattle.site_types.specs.declared.operation.Operation.{Operation}
use Rattle.site_types.specs.declared.operation.Operation.TheVariants.{Mute, Override, Silence, Resound, Reset, Cancel, Disable, Enable, Test, Untest, Delays, Clear}
use Rattle.site_types.specs.declared.output.Output.{Output as OutputPlan}
use Rattle.site_types.specs.declared.point.Point.{Point as PointPlan}
use Rattle.site_types.specs.declared.retained.Retained.{Retained}
use Rattle.site_types.specs.declared.site.Site.{Site}
use Rattle.site_types.specs.declared.zone.Zone.{Zone as ZonePlan}
use Rattle.site_types.specs.Changes.{changed, changed_by, item_change, operation_change, output_change, point_change, test_change, zone_change}
use Rattle.site_types.specs.Done.{Done}
use Rattle.site_types.specs.Limits.{greatest_count}
use Rattle.site_types.proofs.Changes.{changed_by-append}
use Rattle.panel_rules.specs.Moments.{Moment, Began, Happened, Turned, Kept, IsPanel, IsPast, present, later, tick_of}
use Rattle.panel_rules.specs.Operations.{Request, operations}
use Rattle.panel_rules.specs.Batches.{changes_of, count_of, counts, kept_after, new_entries}
use Rattle.panel_rules.specs.Faces.{counter_in}
use Rattle.panel_laws.specs.TimelineLaws.{counted_entries}
use Rattle.panel_laws.specs.BatchLaws.{ClearedCountsFromZero, is_cleared_now, is_clearing_of}
use Rattle.panel_laws.proofs.CountersAddUp.{AreWhole, none_of, twice, whole_after, within}
use Rattle.panel_laws.proofs.LaterDone.{Grew, counted_same, new_same, next_grew}

-- the count of a panel in a batch, and those of so many panels from one on
abbrev pub counted_now : Site → Retained → List Done → List Moment → ℕ → List Change
counted_now site kept done before panel = count_of site kept done panel (new_entries site kept done panel before)

abbrev pub counts_from : Site → Retained → List Done → List Moment → ℕ → ℕ → List Change
counts_from site kept done before first many = flat_map (counted_now site kept done before) (range_with_len first many)

-- ---- the changes of operations count nothing

abbrev IsNoCount : Change → Type 0
IsNoCount (Count panel entries) = ⊥
IsNoCount (Point panel line address off) = Unit {0}
IsNoCount (Zone panel number off) = Unit {0}
IsNoCount (Output panel number off) = Unit {0}
IsNoCount (DelaysChange panel off) = Unit {0}
IsNoCount (ClearChange panel) = Unit {0}
IsNoCount (TestChange panel number on) = Unit {0}

abbrev MakesNoCount : Option Change → Type 0
MakesNoCount None = Unit {0}
MakesNoCount (Some change) = IsNoCount change

of_point : (o : Option PointPlan) (off : Bool) → MakesNoCount (point_change o off)
of_point None off = tt
of_point (Some p) off = tt

of_zone : (o : Option ZonePlan) (off : Bool) → MakesNoCount (zone_change o off)
of_zone None off = tt
of_zone (Some z) off = tt

of_output : (o : Option OutputPlan) (off : Bool) → MakesNoCount (output_change o off)
of_output None off = tt
of_output (Some p) off = tt

of_test : (o : Option ZonePlan) (on : Bool) → MakesNoCount (test_change o on)
of_test None on = tt
of_test (Some z) on = tt

of_item : (site : Site) (item : Item) (off : Bool) → MakesNoCount (item_change site item off)
of_item site (PointItem point) off = of_point (slice_get site.points point) off
of_item site (ZoneItem zone) off = of_zone (slice_get site.zones zone) off
of_item site (OutputItem output) off = of_output (slice_get site.outputs output) off

of_operation : (site : Site) (panel : ℕ) (operation : Operation) → MakesNoCount (operation_change site panel operation)
of_operation site panel Mute = tt
of_operation site panel Override = tt
of_operation site panel Silence = tt
of_operation site panel Resound = tt
of_operation site panel Reset = tt
of_operation site panel (Cancel zone) = tt
of_operation site panel (Disable item) = of_item site item true
of_operation site panel (Enable item) = of_item site item false
of_operation site panel (Test zone) = of_test (slice_get site.zones zone) true
of_operation site panel (Untest zone) = of_test (slice_get site.zones zone) false
of_operation site panel (Delays on) = tt
of_operation site panel Clear = tt

one_more : (o : Option Change) (changes : List Change) → MakesNoCount o → AllByRecursion IsNoCount changes
    → AllByRecursion IsNoCount (cons_option o changes)
one_more None changes h all = all
one_more (Some change) changes h all = (h, all)

no_counts : (site : Site) (waiting : List Request) → AllByRecursion IsNoCount (changes_of site waiting)
no_counts site [] = tt
no_counts site (r ∷ waiting) =
    one_more (operation_change site r.panel r.operation) (changes_of site waiting) (of_operation site r.panel r.operation) (no_counts site waiting)

-- ---- what they make of a counter

zero_set : (xs : List ℕ) (i : ℕ) → slice_index (slice_set xs i 0) i ≡ 0
zero_set [] i = refl
zero_set (x ∷ xs) zero = refl
zero_set (x ∷ xs) (suc i) = zero_set xs i

module _ (panel : ℕ) where
  leaves : (change : Change) → IsNoCount change → is_clearing_of panel change ≡ false → (stored : Retained)
      → counter_in panel (changed change stored) ≡ counter_in panel stored
  leaves (Count p entries) plain e stored = absurd plain
  leaves (Point p line address off) plain e stored = refl
  leaves (Zone p number off) plain e stored = refl
  leaves (Output p number off) plain e stored = refl
  leaves (DelaysChange p off) plain e stored = refl
  leaves (TestChange p number on) plain e stored = refl
  leaves (ClearChange p) plain e stored =
      elim (eqb_tells (p - 1) (panel - 1)) [
        | inl h ↦ absurd (let x : true ≡ false = sym h.0 ∙ e in cc)
        | inr h ↦ get_or-set_other stored.counters (p - 1) (panel - 1) 0 0 (λ same. h.1 (sym same))
      ]

  empties : (change : Change) → is_clearing_of panel change ≡ true → (stored : Retained) → counter_in panel (changed change stored) ≡ 0
  empties (Count p entries) e stored = cc
  empties (Point p line address off) e stored = cc
  empties (Zone p number off) e stored = cc
  empties (Output p number off) e stored = cc
  empties (DelaysChange p off) e stored = cc
  empties (TestChange p number on) e stored = cc
  empties (ClearChange p) e stored =
      elim (eqb_tells (p - 1) (panel - 1)) [
        | inl h ↦ ap (λ i. slice_index (slice_set stored.counters (p - 1) 0) i) (sym h.1) ∙ zero_set stored.counters (p - 1)
        | inr h ↦ absurd (let x : true ≡ false = sym e ∙ h.0 in cc)
      ]

  all_leave : (changes : List Change) → AllByRecursion IsNoCount changes → list_any (is_clearing_of panel) changes ≡ false → (stored : Retained)
      → counter_in panel (changed_by changes stored) ≡ counter_in panel stored
  all_leave [] all e stored = refl
  all_leave (c ∷ changes) all e stored =
      let none = none_of panel (is_clearing_of panel c) (list_any (is_clearing_of panel) changes) e in
      all_leave changes all.1 none.1 (changed c stored) ∙ leaves c all.0 none.0 stored

  stays_empty : (changes : List Change) → AllByRecursion IsNoCount changes → (stored : Retained) → counter_in panel stored ≡ 0
      → counter_in panel (changed_by changes stored) ≡ 0
  stays_empty [] all stored z = z
  stays_empty (c ∷ changes) all stored z = stays_empty changes all.1 (changed c stored) (go (is_clearing_of panel c) refl)
    where
      go : (b : Bool) → is_clearing_of panel c ≡ b → counter_in panel (changed c stored) ≡ 0
      go true e = empties c e stored
      go false e = leaves c all.0 e stored ∙ z

  emptied : (changes : List Change) → AllByRecursion IsNoCount changes → list_any (is_clearing_of panel) changes ≡ true → (stored : Retained)
      → counter_in panel (changed_by changes stored) ≡ 0
  emptied [] all e stored = cc
  emptied (c ∷ changes) all e stored = go (is_clearing_of panel c) refl (λ rest. emptied changes all.1 rest (changed c stored))
    where
      go : (b : Bool) → is_clearing_of panel c ≡ b
          → (list_any (is_clearing_of panel) changes ≡ true → counter_in panel (changed_by changes (changed c stored)) ≡ 0)
          → counter_in panel (changed_by changes (changed c stored)) ≡ 0
      go true t ih = stays_empty changes all.1 (changed c stored) (empties c t stored)
      go false t ih = ih (sym (ap (λ b. b || list_any (is_clearing_of panel) changes) t) ∙ e)

  -- counts clear nothing
  count_clears : (site : Site) (kept : Retained) (done : List Done) (p : ℕ) (ticks : List ℕ)
      → list_any (is_clearing_of panel) (count_of site kept done p ticks) ≡ false
  count_clears site kept done p [] = refl
  count_clears site kept done p (tick ∷ ticks) = refl

  counts_clear : (site : Site) (kept : Retained) (done : List Done) (before : List Moment) (first many : ℕ) →
      list_any (is_clearing_of panel) (counts_from site kept done before first many) ≡ false
  counts_clear site kept done before first zero = refl
  counts_clear site kept done before first (suc many) =
      list_any-append (is_clearing_of panel) (counted_now site kept done before first) (counts_from site kept done before (first + 1) many)
      ∙ ap (λ b. b || list_any (is_clearing_of panel) (counts_from site kept done before (first + 1) many))
      (count_clears site kept done first (new_entries site kept done first before))
      ∙ counts_clear site kept done before (first + 1) many

  cleared_by : (site : Site) (kept : Retained) (before : List Moment)
      → is_cleared_now site kept panel before ≡ list_any (is_clearing_of panel) (changes_of site (operations site kept before).waiting)
  cleared_by site kept before =
      list_any-append (is_clearing_of panel) (counts site kept (operations site kept before).done before)
      (changes_of site (operations site kept before).waiting)
      ∙ ap (λ b. b || list_any (is_clearing_of panel) (changes_of site (operations site kept before).waiting))
      (counts_clear site kept (operations site kept before).done before 1 site.panels)

-- ---- over a run

past_in_time : (past moments : List Moment) → IsPast past moments → tick_of past ≤ tick_of moments
past_in_time past moments present = omega arith
past_in_time past moments (later Began before h) = let l = past_in_time past before h in omega (arith, l)
past_in_time past moments (later (Happened event) before h) = past_in_time past before h
past_in_time past moments (later (Turned panel task) before h) = past_in_time past before h
past_in_time past moments (later (Kept failed) before h) = past_in_time past before h

counted_more : (site : Site) (kept : Retained) (done : List Done) (panel : ℕ) (past moments : List Moment) → IsPast past moments
    → counted_entries site kept done panel past ≤ counted_entries site kept done panel moments
counted_more site kept done panel past moments present = omega arith
counted_more site kept done panel past moments (later Began before h) = counted_more site kept done panel past before h
counted_more site kept done panel past moments (later (Happened event) before h) = counted_more site kept done panel past before h
counted_more site kept done panel past moments (later (Turned p task) before h) = counted_more site kept done panel past before h
counted_more site kept done panel past moments (later (Kept true) before h) = counted_more site kept done panel past before h
counted_more site kept done panel past moments (later (Kept false) before h) = let l = counted_more site kept done panel past before h in
    omega (arith, l)

nothing_since : (n : ℕ) → 0 ≡ min (n - n) greatest_count
nothing_since n = omega arith

more_since : (c b n : ℕ) → b ≤ c → (c - b) + n ≡ (c + n) - b
more_since c b n l = omega (arith, l)

module _ (site : Site) (kept : Retained) (panel : ℕ) (few : site.panels ≤ 8) (own : IsPanel site.panels panel) (whole : AreWhole kept)
    (before : List Moment) (clears : is_cleared_now site kept panel before ≡ true) where
  abbrev NoneLater : List Moment → Type 0
  NoneLater moments = (after : List Moment) → IsPast (Kept false ∷ before) after → IsPast (Kept false ∷ after) moments
      → is_cleared_now site kept panel after ≡ false

  abbrev Counts : List Moment → List Done → Type 0
  Counts moments done =
      counter_in panel (kept_after site kept moments)
      ≡ min (counted_entries site kept done panel moments - counted_entries site kept done panel (Kept false ∷ before)) greatest_count

  -- the same by what was done a little later
  carry : (rest : List Moment) (after : List Done) → IsPast (Kept false ∷ before) rest → Grew (operations site kept rest).done after (tick_of rest)
      → Counts rest (operations site kept rest).done
      → Counts rest after
  carry rest after h grew ih =
      let old = (operations site kept rest).done in
      let now = ap (λ done. counted_entries site kept done panel rest) grew.is ∙ counted_same site kept grew.new old (tick_of rest) grew.from panel
      rest (omega arith) in
      let then = ap (λ done. counted_entries site kept done panel (Kept false ∷ before)) grew.is
      ∙ counted_same site kept grew.new old (tick_of rest) grew.from panel (Kept false ∷ before) (past_in_time (Kept false ∷ before) rest h) in
      ih
      ∙ ap (λ n. min (n - counted_entries site kept old panel (Kept false ∷ before)) greatest_count) (sym now)
      ∙ ap (λ n. min (counted_entries site kept after panel rest - n) greatest_count) (sym then)

  sooner : (moment : Moment) (rest : List Moment) → NoneLater (moment ∷ rest) → NoneLater rest
  sooner moment rest none after p q = none after p (later moment rest q)

  since : (moments : List Moment) → IsPast (Kept false ∷ before) moments → NoneLater moments → Counts moments (operations site kept moments).done
  since moments present none =
      let so_far = operations site kept before in
      ap (counter_in panel) (changed_by-append (counts site kept so_far.done before) (changes_of site so_far.waiting) (kept_after site kept before))
      ∙ emptied panel (changes_of site so_far.waiting) (no_counts site so_far.waiting) (sym (cleared_by panel site kept before) ∙ clears)
      (changed_by (counts site kept so_far.done before) (kept_after site kept before))
      ∙ nothing_since (counted_entries site kept (operations site kept (Kept false ∷ before)).done panel (Kept false ∷ before))
  since moments (later Began rest h) none = carry rest _ h (next_grew site kept Began rest) (since rest h (sooner Began rest none))
  since moments (later (Happened event) rest h) none =
      carry rest _ h (next_grew site kept (Happened event) rest) (since rest h (sooner (Happened event) rest none))
  since moments (later (Turned p task) rest h) none =
      carry rest _ h (next_grew site kept (Turned p task) rest) (since rest h (sooner (Turned p task) rest none))
  since moments (later (Kept true) rest h) none = carry rest _ h (next_grew site kept (Kept true) rest) (since rest h (sooner (Kept true) rest none))
  since moments (later (Kept false) rest h) none =
      let so_far = operations site kept rest in
      let stored = kept_after site kept rest in
      let after = (operations site kept (Kept false ∷ rest)).done in
      let grew = next_grew site kept (Kept false) rest in
      let was = carry rest after h grew (since rest h (sooner (Kept false) rest none)) in
      let fresh = new_entries site kept so_far.done panel rest in
      let old = counted_entries site kept after panel (Kept false ∷ before) in
      let now = counted_entries site kept after panel rest in
      let counted = within panel own.0 (let p = own.1 in omega (arith, p, few)) site kept so_far.done rest 1 site.panels stored (omega arith) own.0
      (let p = own.1 in omega (arith, p))
      (whole_after site kept rest whole) in
      ap (counter_in panel) (changed_by-append (counts site kept so_far.done rest) (changes_of site so_far.waiting) stored)
      ∙ all_leave panel (changes_of site so_far.waiting) (no_counts site so_far.waiting) (sym (cleared_by panel site kept rest) ∙ none rest h present)
      (changed_by (counts site kept so_far.done rest) stored)
      ∙ counted
      ∙ ap (λ n. min (n + length fresh) greatest_count) was
      ∙ twice (now - old) (length fresh)
      ∙ ap (λ n. min n greatest_count) (more_since now old (length fresh) (counted_more site kept after panel (Kept false ∷ before) rest h))
      ∙ ap (λ xs. min ((now + length xs) - old) greatest_count)
      (sym (ap (λ done. new_entries site kept done panel rest) grew.is ∙ new_same site kept grew.new so_far.done (tick_of rest) grew.from panel rest
      (omega arith)))

pub cleared_counts : ClearedCountsFromZero
cleared_counts site kept moments panel before few own long small h =
    since site kept panel few own (record { long = long; small = small }) before h.clears moments h.turn h.last
