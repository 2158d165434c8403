-- Few operations wait, and a batch is small and of the site.
use Rattle.std.proofs.Common.{◌≡◌, ℕ, zero, suc, ◌+◌, ◌-◌, ◌≤◌, ◌==◌, ◌&&◌, ◌⊎◌, inl, inr, List, [], ◌∷◌, length}
use Rattle.std.proofs.Common.{Option, Some, None, slice_get, Bool, true, false, refl, ◌∙◌, subst, arith}
use Rattle.std.proofs.Common.{length-append}
use Rattle.std.specs.Prelude.{nat_le}
use Rattle.std.specs.List.{cons_option, list_all, list_any}
use Rattle.std.proofs.lemmas.Bool.Decides.{eqb_tells}
use Rattle.std.proofs.lemmas.List.Folds.{list_all-append}
use Rattle.site_types.specs.declared.change.Change.{Change}
use Rattle.site_types.specs.declared.change.Change.TheVariants.{Point, Zone, Output, Delays as DelaysChange, Count, Clear as ClearChange, Test as TestChange}
use Rattle.site_types.specs.declared.item.Item.{Item}
use Rattle.site_types.specs.declared.item.Item.TheVariants.{Point as PointItem, Zone as ZoneItem, Output as OutputItem}
use Rattle.site_types.specs.declared.operation.Operation.{Operation}
use Rattle.site_types.specs.declared.operation.Operation.TheVariants.{Mute, Override, Silence, Resound, Reset, Cancel, Disable, Enable, Test, Untest, Delays, Clear}
use Rattle.site_types.specs.declared.output.Output.{Output as OutputPlan}
use Rattle.site_types.specs.declared.point.Point.{Point as PointPlan}
use Rattle.site_types.specs.declared.retained.Retained.{Retained}
use Rattle.site_types.specs.declared.site.Site.{Site}
use Rattle.site_types.specs.declared.zone.Zone.{Zone as ZonePlan}
use Rattle.site_types.specs.Bits.{IsPlace}
use Rattle.site_types.specs.Changes.{IsNumber, IsPanelNumber, item_change, operation_change, output_change, point_change, test_change, zone_change}
use Rattle.site_types.specs.Done.{Done}
use Rattle.site_types.specs.Events.{is_panel}
use Rattle.site_types.specs.Profile.{last_address_of}
use Rattle.site_types.specs.Valid.{IsValid}
use Rattle.site_types.proofs.ValidSites.{output_numbers, point_at, point_numbers, zone_numbers}
use Rattle.coincidence_rules.specs.Places.{is_numbered}
use Rattle.panel_conditions.specs.Points.{is_addressed}
use Rattle.panel_rules.specs.Moments.{Moment, IsPanel, IsRun, has_kept, tick_of}
use Rattle.panel_rules.specs.Operations.{Request, operations, requests}
use Rattle.panel_laws.specs.OperationLaws.{AreOfSite}
use Rattle.panel_rules.specs.Batches.{changes_of, count_of, counts, new_entries}
use Rattle.panel_laws.specs.BatchFits.{BatchesFit, ChangesHavePlaces, FewWait, is_change_of}
use Rattle.panel_laws.proofs.AnswerLaws.{Waits, eq_is, owed, sound}
use Rattle.panel_laws.proofs.AnswersFit.{IsEarly, answers_fit}
use Rattle.panel_rules.proofs.Bools.{all_by, any_at, at_any, both, either_left, either_right, parts}
use Rattle.panel_laws.proofs.ClearedCounts.{counted_now, counts_from}
use Rattle.panel_rules.proofs.Counting.{count, each_at}
use Rattle.panel_laws.proofs.FewAnswers.{can_be_told, few_asked, few_in_tick, is_early_up_to}
use Rattle.panel_rules.proofs.Floors.{le_from, le_to, lt_to}
use Rattle.panel_rules.proofs.OpenRequests.{answered_few}
use Rattle.panel_rules.proofs.Places.{found_from}
use Rattle.panel_rules.proofs.AnswersTell.{eq_true}

-- ---- few wait

count_whole : {X : Type 0} (test : X → Bool) (xs : List X) → ((k : ℕ) (x : X) → slice_get xs k ≡ Some x → test x ≡ true) → count test xs ≡ length xs
count_whole test [] each = refl
count_whole test (x ∷ xs) each = let ih = count_whole test xs (λ k y is. each (suc k) y is) in rw (each 0 x refl) (omega (arith, ih))

module _ (site : Site) (kept : Retained) (valid : IsValid site) (moments : List Moment) (run : IsRun site.panels moments) (of :
    AreOfSite site moments) where
  waits_at : (k : ℕ) (r : Request) → slice_get (operations site kept moments).waiting k ≡ Some r
      → Waits (requests site moments) (tick_of moments) (has_kept moments) r
  waits_at k r is =
      each_at (Waits (requests site moments) (tick_of moments) (has_kept moments)) (operations site kept moments).waiting k r
      (sound site kept moments run).waiting is

  early_in : (k tick : ℕ) (r : Request) → slice_get (operations site kept moments).waiting k ≡ Some r → r.tick ≡ tick → is_early_up_to 8 tick r ≡ true
  early_in k tick r is same =
      let w = waits_at k r is in
      let p = (of w.from.place r w.from.is).0 in
      let few = valid.forms.panels.1 in
      let early = each_at IsEarly (operations site kept moments).waiting k r (answers_fit site kept moments).waiting is in
      both _ _ (both _ _ (le_to 1 r.panel p.0) (le_to r.panel 8 (omega (arith, p.1, few))))
      (both _ _ (eq_true r.tick tick same) (lt_to r.earlier 4 early))

  told_in : (k : ℕ) (r : Request) → slice_get (operations site kept moments).waiting k ≡ Some r → can_be_told (tick_of moments) r ≡ true
  told_in k r is = go (has_kept moments) (waits_at k r is).by (waits_at k r is).soon
    where
      now : r.tick ≡ tick_of moments → can_be_told (tick_of moments) r ≡ true
      now e = either_left (is_early_up_to 8 (tick_of moments) r) (is_early_up_to 8 (tick_of moments - 1) r) (early_in k (tick_of moments) r is e)

      last : r.tick ≡ tick_of moments - 1 → can_be_told (tick_of moments) r ≡ true
      last e =
          either_right (is_early_up_to 8 (tick_of moments) r) (is_early_up_to 8 (tick_of moments - 1) r) (early_in k (tick_of moments - 1) r is e)

      which : (t n : ℕ) → t ≤ n → n ≤ t + 1 → (t ≡ n) ⊎ (t ≡ n - 1)
      which t n l m = elim (eqb_tells t n) [ inl h ↦ inl h.1 | inr h ↦ inr (let apart = h.1 in omega (arith, l, m, apart)) ]

      near : r.tick ≤ tick_of moments → tick_of moments ≤ r.tick + 1 → can_be_told (tick_of moments) r ≡ true
      near l m = elim (which r.tick (tick_of moments) l m) [ inl e ↦ now e | inr e ↦ last e ]

      go : (b : Bool) → r.tick ≤ tick_of moments → tick_of moments ≤ r.tick + owed b → can_be_told (tick_of moments) r ≡ true
      go true l m = near l (omega (arith, m))
      go false l m = near l m

  -- what waits was asked for
  waiting_few : (test : Request → Bool) → count test (operations site kept moments).waiting ≤ count test (requests site moments)
  waiting_few test = let h = answered_few site kept test moments run in omega (arith, h)

  few : length (operations site kept moments).waiting ≤ 64
  few =
      let whole = count_whole (can_be_told (tick_of moments)) (operations site kept moments).waiting told_in in
      let asked = waiting_few (can_be_told (tick_of moments)) in
      let bound = few_asked site moments (tick_of moments) in
      omega (arith, whole, asked, bound)

  in_its_tick : has_kept moments ≡ true → (k : ℕ) (r : Request) → slice_get (operations site kept moments).waiting k ≡ Some r
      → r.tick ≡ tick_of moments
  in_its_tick turned k r is = let w = waits_at k r is in let s = subst (λ b. tick_of moments ≤ r.tick + owed b) turned w.soon in let l = w.by in
      omega (arith, s, l)

  few_after : has_kept moments ≡ true → length (operations site kept moments).waiting ≤ 32
  few_after turned =
      let whole =
      count_whole (is_early_up_to 8 (tick_of moments)) (operations site kept moments).waiting
      (λ k r is. early_in k (tick_of moments) r is (in_its_tick turned k r is)) in
      let asked = waiting_few (is_early_up_to 8 (tick_of moments)) in
      let bound = few_in_tick site moments (tick_of moments) in
      omega (arith, whole, asked, bound)

pub few_wait : FewWait
few_wait site kept moments valid run of = (few site kept valid moments run of, few_after site kept valid moments run of)

-- ---- a batch is small

count_one : (site : Site) (kept : Retained) (done : List Done) (panel : ℕ) (ticks : List ℕ) → length (count_of site kept done panel ticks) ≤ 1
count_one site kept done panel [] = omega arith
count_one site kept done panel (tick ∷ ticks) = omega arith

counts_few : (site : Site) (kept : Retained) (done : List Done) (before : List Moment) (first many : ℕ) →
    length (counts_from site kept done before first many) ≤ many
counts_few site kept done before first zero = omega arith
counts_few site kept done before first (suc many) =
    let ih = counts_few site kept done before (first + 1) many in
    let here = count_one site kept done first (new_entries site kept done first before) in
    let both = length-append (counted_now site kept done before first) (counts_from site kept done before (first + 1) many) in
    omega (arith, ih, here, both)

one_less : (o : Option Change) (xs : List Change) → length (cons_option o xs) ≤ 1 + length xs
one_less None xs = omega arith
one_less (Some c) xs = omega arith

changes_few : (site : Site) (waiting : List Request) → length (changes_of site waiting) ≤ length waiting
changes_few site [] = omega arith
changes_few site (r ∷ waiting) = let ih = changes_few site waiting in let l =
    one_less (operation_change site r.panel r.operation) (changes_of site waiting) in omega (arith, ih, l)

-- ---- each change is of the site

the_change : (c d : Change) → Some c ≡ Some d → c ≡ d
the_change c d e = cc

abbrev IsOf : Site → Change → Type 0
IsOf site change = is_change_of site change ≡ true

panel_of_site : (site : Site) (panel : ℕ) → IsPanel site.panels panel → is_panel site panel ≡ true
panel_of_site site panel p = both (nat_le 1 panel) (nat_le panel site.panels) (le_to 1 panel p.0) (le_to panel site.panels p.1)

of_point : (site : Site) (i : ℕ) (o : Option PointPlan) (off : Bool) (c : Change) → slice_get site.points i ≡ o → point_change o off ≡ Some c
    → IsOf site c
of_point site i None off c is e = cc
of_point site i (Some p) off c is e =
    subst (IsOf site) (the_change (Point p.panel p.line p.address off) c e)
    (any_at (is_addressed p.panel p.line p.address) site.points i p is
    (both _ _ (eq_true p.panel p.panel refl) (both _ _ (eq_true p.line p.line refl) (eq_true p.address p.address refl))))

numbered_at : (site : Site) (i : ℕ) (z : ZonePlan) → slice_get site.zones i ≡ Some z → list_any (is_numbered z.panel z.number) site.zones ≡ true
numbered_at site i z is =
    any_at (is_numbered z.panel z.number) site.zones i z is (both _ _ (eq_true z.panel z.panel refl) (eq_true z.number z.number refl))

of_zone : (site : Site) (i : ℕ) (o : Option ZonePlan) (off : Bool) (c : Change) → slice_get site.zones i ≡ o → zone_change o off ≡ Some c
    → IsOf site c
of_zone site i None off c is e = cc
of_zone site i (Some z) off c is e = subst (IsOf site) (the_change (Zone z.panel z.number off) c e) (numbered_at site i z is)

of_test : (site : Site) (i : ℕ) (o : Option ZonePlan) (on : Bool) (c : Change) → slice_get site.zones i ≡ o → test_change o on ≡ Some c → IsOf site c
of_test site i None on c is e = cc
of_test site i (Some z) on c is e = subst (IsOf site) (the_change (TestChange z.panel z.number on) c e) (numbered_at site i z is)

of_output : (site : Site) (i : ℕ) (o : Option OutputPlan) (off : Bool) (c : Change) → slice_get site.outputs i ≡ o → output_change o off ≡ Some c
    → IsOf site c
of_output site i None off c is e = cc
of_output site i (Some p) off c is e =
    subst (IsOf site) (the_change (Output p.panel p.number off) c e)
    (any_at (λ (plan : OutputPlan). (plan.panel == p.panel) && (plan.number == p.number)) site.outputs i p is
    (both _ _ (eq_true p.panel p.panel refl) (eq_true p.number p.number refl)))

of_item : (site : Site) (item : Item) (off : Bool) (c : Change) → item_change site item off ≡ Some c → IsOf site c
of_item site (PointItem i) off c e = of_point site i (slice_get site.points i) off c refl e
of_item site (ZoneItem i) off c e = of_zone site i (slice_get site.zones i) off c refl e
of_item site (OutputItem i) off c e = of_output site i (slice_get site.outputs i) off c refl e

of_operation : (site : Site) (panel : ℕ) (operation : Operation) (c : Change) → IsPanel site.panels panel
    → operation_change site panel operation ≡ Some c → IsOf site c
of_operation site panel Mute c p e = cc
of_operation site panel Override c p e = cc
of_operation site panel Silence c p e = cc
of_operation site panel Resound c p e = cc
of_operation site panel Reset c p e = cc
of_operation site panel (Cancel zone) c p e = cc
of_operation site panel (Disable item) c p e = of_item site item true c e
of_operation site panel (Enable item) c p e = of_item site item false c e
of_operation site panel (Test zone) c p e = of_test site zone (slice_get site.zones zone) true c refl e
of_operation site panel (Untest zone) c p e = of_test site zone (slice_get site.zones zone) false c refl e
of_operation site panel (Delays on) c p e = subst (IsOf site) (the_change _ c e) (panel_of_site site panel p)
of_operation site panel Clear c p e = subst (IsOf site) (the_change (ClearChange panel) c e) (panel_of_site site panel p)

count_of_site : (site : Site) (kept : Retained) (done : List Done) (panel : ℕ) (ticks : List ℕ) → IsPanel site.panels panel
    → list_all (is_change_of site) (count_of site kept done panel ticks) ≡ true
count_of_site site kept done panel [] p = refl
count_of_site site kept done panel (tick ∷ ticks) p = both _ _ (panel_of_site site panel p) refl

counts_of_site : (site : Site) (kept : Retained) (done : List Done) (before : List Moment) (first many : ℕ) → 1 ≤ first
    → first + many ≤ site.panels + 1 →
    list_all (is_change_of site) (counts_from site kept done before first many) ≡ true
counts_of_site site kept done before first zero one few = refl
counts_of_site site kept done before first (suc many) one few =
    list_all-append (is_change_of site) (counted_now site kept done before first) (counts_from site kept done before (first + 1) many)
    ∙ both _ _ (count_of_site site kept done first (new_entries site kept done first before) (one, omega (arith, few)))
    (counts_of_site site kept done before (first + 1) many (omega (arith, one)) (omega (arith, few)))

changes_of_site : (site : Site) (waiting : List Request) → ((k : ℕ) (r : Request) → slice_get waiting k ≡ Some r → IsPanel site.panels r.panel)
    → list_all (is_change_of site) (changes_of site waiting) ≡ true
changes_of_site site waiting panels =
    all_by (is_change_of site) (changes_of site waiting)
    (λ k c is. (let g = found_from (λ (r : Request). operation_change site r.panel r.operation) waiting k c is in
    of_operation site g.source.panel g.source.operation c (panels g.place g.source g.is) g.gives))

pub batches_fit : BatchesFit
batches_fit site kept moments valid run of =
    let so_far = operations site kept moments in
    let first = counts site kept so_far.done moments in
    let many = counts_few site kept so_far.done moments 1 site.panels in
    let more = changes_few site so_far.waiting in
    let waiting = few site kept valid moments run of in
    let both_lists = length-append first (changes_of site so_far.waiting) in
    let panels = valid.forms.panels.1 in (
      omega (arith, many, more, waiting, both_lists, panels),
      list_all-append (is_change_of site) first (changes_of site so_far.waiting)
          ∙ both _ _ (counts_of_site site kept so_far.done moments 1 site.panels (omega arith) (omega arith))
          (changes_of_site site so_far.waiting (λ k r is. (let w = waits_at site kept valid moments run of k r is in
          (of w.from.place r w.from.is).0))),
    )

-- ---- what it names has a place

panel_number : (site : Site) (panel : ℕ) → IsValid site → is_panel site panel ≡ true → IsPanelNumber panel
panel_number site panel valid h =
    let p = parts (nat_le 1 panel) (nat_le panel site.panels) h in
    let low = le_from 1 panel p.0 in
    let high = le_from panel site.panels p.1 in
    let few = valid.forms.panels.1 in
    (low, omega (arith, high, few))

zone_place : (site : Site) (panel number : ℕ) → IsValid site → list_any (is_numbered panel number) site.zones ≡ true
    → IsPanelNumber panel × IsNumber number
zone_place site panel number valid h =
    let g = at_any (is_numbered panel number) site.zones h in
    let p = parts (g.item.panel == panel) (g.item.number == number) g.passes in
    let n = zone_numbers site valid g.place g.item g.is in
    (subst IsPanelNumber (eq_is g.item.panel panel p.0) (n.0, n.1), subst IsNumber (eq_is g.item.number number p.1) (n.2, n.3))

pub changes_have_places : ChangesHavePlaces
changes_have_places site (Point panel line address off) valid h =
    let g = at_any (is_addressed panel line address) site.points h in
    let p = parts (g.item.panel == panel) ((g.item.line == line) && (g.item.address == address)) g.passes in
    let q = parts (g.item.line == line) (g.item.address == address) p.1 in
    let n = point_numbers site valid g.place g.item g.is in
    let same = eq_is g.item.address address q.1 in (
      (
        subst IsPanelNumber (eq_is g.item.panel panel p.0) (n.0, n.1),
        subst (λ l. IsPlace l address) (eq_is g.item.line line q.0) (subst (λ a. IsPlace g.item.line a) same n.2),
      ),
      subst (λ a. a ≤ last_address_of site.format) same (point_at site valid g.place g.item g.is).address.1,
    )
changes_have_places site (Zone panel number off) valid h = (zone_place site panel number valid h, tt)
changes_have_places site (Output panel number off) valid h =
    let g = at_any (λ (plan : OutputPlan). (plan.panel == panel) && (plan.number == number)) site.outputs h in
    let p = parts (g.item.panel == panel) (g.item.number == number) g.passes in
    let n = output_numbers site valid g.place g.item g.is in
    ((subst IsPanelNumber (eq_is g.item.panel panel p.0) (n.0, n.1), subst IsNumber (eq_is g.item.number number p.1) (n.2, n.3)), tt)
changes_have_places site (DelaysChange panel off) valid h = (panel_number site panel valid h, tt)
changes_have_places site (Count panel entries) valid h = (panel_number site panel valid h, tt)
changes_have_places site (ClearChange panel) valid h = (panel_number site panel valid h, tt)
changes_have_places site (TestChange panel number on) valid h = (zone_place site panel number valid h, tt)
