-- What is kept is what is in force.
use Rattle.std.proofs.Common.{◌≡◌, ℕ, zero, suc, ◌+◌, ◌≤◌, List, [], ◌∷◌, length, Option, Some, None, slice_get, Bool, true, false, not, ◌==◌, ◌&&◌, refl, sym, ap, subst, arith}
use Rattle.std.specs.List.{AllByRecursion, flat_map, range_with_len}
use Rattle.tick_units.specs.declared.task.Task.TheVariants.{Desk}
use Rattle.site_types.specs.declared.change.Change.{Change}
use Rattle.site_types.specs.declared.change.Change.TheVariants.{Count, Delays as DelaysChange, Clear as ClearChange}
use Rattle.site_types.specs.declared.event.Event.TheVariants.{Op, Point, Cable, Supply, Link, Confirmed}
use Rattle.site_types.specs.declared.item.Item.{Item}
use Rattle.site_types.specs.declared.item.Item.TheVariants.{Point as PointItem, Zone as ZoneItem, Output as OutputItem}
use Rattle.site_types.specs.declared.operation.Operation.{Operation}
use Rattle.site_types.specs.declared.operation.Operation.TheVariants.{Mute, Override, Silence, Resound, Reset, Cancel, Disable, Enable, Test, Untest, Delays, Clear}
use Rattle.site_types.specs.declared.point.Point.{Point as PointPlan}
use Rattle.site_types.specs.declared.zone.Zone.{Zone as ZonePlan}
use Rattle.site_types.specs.declared.output.Output.{Output as OutputPlan}
use Rattle.site_types.specs.declared.retained.Retained.{Retained}
use Rattle.site_types.specs.declared.site.Site.{Site}
use Rattle.site_types.specs.Changes.{IsPanelNumber, IsSized, HasOwnPlaces, changed, changed_by, item_change, point_change, zone_change, output_change, test_change, operation_change}
use Rattle.site_types.proofs.Keeping.{KeepsInForce}
use Rattle.site_types.specs.Done.{Done, Setting, operation_setting, AreBy, is_kept_operation}
use Rattle.site_types.specs.Events.{has_operands, has_item, is_some_with}
use Rattle.site_types.specs.Valid.{IsValid}
use Rattle.site_types.proofs.Changes.{can_apply, sized-changed, changed_by-append}
use Rattle.site_types.proofs.Done.{by_later}
use Rattle.site_types.proofs.Settled.{keeps-none, keeps-change, keeps-other, keeps-count, keeps-later}
use Rattle.site_types.proofs.ValidSites.{point_numbers, zone_numbers, output_numbers}
use Rattle.panel_rules.specs.Moments.{Moment, Began, Happened, Turned, Kept, tick_of, IsPanel}
use Rattle.panel_rules.specs.Operations.{Request, Reply, Operations, requests_in, requests, done_in, after_reply, desk_reply, after_request, after_desk, do_all, operations}
use Rattle.panel_rules.specs.Batches.{count_of, new_entries, counts, changes_of, kept_after}
use Rattle.panel_laws.specs.OperationLaws.{AreOfSite, KeptIsInForce}
use Rattle.panel_rules.proofs.Bools.{parts}
use Rattle.panel_rules.proofs.Places.{get_front}
use Rattle.panel_rules.proofs.Counting.{each_more, each_filtered}
use Rattle.panel_laws.proofs.AnswerLaws.{eq_is}
use Rattle.panel_laws.proofs.DeskOutcomes.{Outcome, told, at_once, goes_on, outcome}

three : (a b c d e f : ℕ) → a ≡ d → b ≡ e → c ≡ f → ◌≡◌ {A = List ℕ} (a ∷ b ∷ c ∷ []) (d ∷ e ∷ f ∷ [])
three a b c d e f p q r = cc

two : (a b c d : ℕ) → a ≡ c → b ≡ d → ◌≡◌ {A = List ℕ} (a ∷ b ∷ []) (c ∷ d ∷ [])
two a b c d p q = cc

-- each thing of a valid site has a place of its own
pub own_places : (site : Site) → IsValid site → HasOwnPlaces site
own_places site valid = record {
  point = λ i p is. let n = point_numbers site valid i p is in ((n.0, n.1), n.2);
  zone = λ i z is. let n = zone_numbers site valid i z is in ((n.0, n.1), (n.2, n.3));
  output = λ i o is. let n = output_numbers site valid i o is in ((n.0, n.1), (n.2, n.3));
  points_apart = λ i j p q is is' a b c. valid.twins.points i j p q is is' (three p.panel p.line p.address q.panel q.line q.address a b c);
  zones_apart = λ i j y z is is' a b. valid.twins.zones i j y z is is' (two y.panel y.number z.panel z.number a b);
  outputs_apart = λ i j n o is is' a b. valid.twins.outputs i j n o is is' (two n.panel n.number o.panel o.number a b);
}

-- ---- an operation on a setting of the site makes a change

pub record Changes (site : Site) (panel : ℕ) (operation : Operation) : Type 0 where
  pub change : Change
  pub is : operation_change site panel operation ≡ Some change

pub some_of : {X : Type 0} (test : X → Bool) (o : Option X) → is_some_with test o ≡ true → (x : X) × (o ≡ Some x)
some_of test None h = absurd cc
some_of test (Some x) h = (x, refl)

item_changes : (site : Site) (panel : ℕ) (item : Item) (off : Bool) → has_item site panel item ≡ true
    → (c : Change) × (item_change site item off ≡ Some c)
item_changes site panel (PointItem i) off h = let g = some_of (λ (p : PointPlan). p.panel == panel) (slice_get site.points i) h in
    (_, ap (λ o. point_change o off) g.1)
item_changes site panel (ZoneItem i) off h = let g = some_of (λ (z : ZonePlan). z.panel == panel) (slice_get site.zones i) h in
    (_, ap (λ o. zone_change o off) g.1)
item_changes site panel (OutputItem i) off h = let g = some_of (λ (o : OutputPlan). o.panel == panel) (slice_get site.outputs i) h in
    (_, ap (λ o. output_change o off) g.1)

pub changes : (site : Site) (panel : ℕ) (operation : Operation) (setting : Setting) → has_operands site panel operation ≡ true
    → operation_setting panel operation ≡ Some setting → Changes site panel operation
changes site panel Mute setting h e = absurd cc
changes site panel Override setting h e = absurd cc
changes site panel Silence setting h e = absurd cc
changes site panel Resound setting h e = absurd cc
changes site panel Reset setting h e = absurd cc
changes site panel (Cancel zone) setting h e = absurd cc
changes site panel (Disable item) setting h e = let g = item_changes site panel item true h in record { change = g.0; is = g.1 }
changes site panel (Enable item) setting h e = let g = item_changes site panel item false h in record { change = g.0; is = g.1 }
changes site panel (Test zone) setting h e = let g = some_of (λ (z : ZonePlan). z.panel == panel) (slice_get site.zones zone) h in
    record { change = _; is = ap (λ o. test_change o true) g.1 }
changes site panel (Untest zone) setting h e = let g = some_of (λ (z : ZonePlan). z.panel == panel) (slice_get site.zones zone) h in
    record { change = _; is = ap (λ o. test_change o false) g.1 }
changes site panel (Delays on) setting h e = record { change = DelaysChange panel (not on); is = refl }
changes site panel Clear setting h e = record { change = ClearChange panel; is = refl }

-- what is on no setting is not kept
pub unkept : (panel : ℕ) (operation : Operation) → operation_setting panel operation ≡ None → is_kept_operation operation ≡ false
unkept panel Mute e = refl
unkept panel Override e = refl
unkept panel Silence e = refl
unkept panel Resound e = refl
unkept panel Reset e = refl
unkept panel (Cancel zone) e = refl
unkept panel (Disable item) e = absurd cc
unkept panel (Enable item) e = absurd cc
unkept panel (Test zone) e = absurd cc
unkept panel (Untest zone) e = absurd cc
unkept panel (Delays on) e = absurd cc
unkept panel Clear e = absurd cc

-- ---- the invariant

-- one that waits makes a change
record IsGood (site : Site) (r : Request) : Type 0 where
  panel : IsPanelNumber r.panel
  makes : Changes site r.panel r.operation

record Fits (site : Site) (kept : Retained) (tick : ℕ) (so_far : Operations) (stored : Retained) : Type 0 where
  keeps : KeepsInForce site kept so_far.done (tick + 1) stored
  sized : IsSized stored
  by : AreBy tick so_far.done
  waiting : AllByRecursion (IsGood site) so_far.waiting

-- one that is taken now
record IsNow (site : Site) (tick : ℕ) (r : Request) : Type 0 where
  same : r.tick ≡ tick
  panel : IsPanelNumber r.panel
  has : has_operands site r.panel r.operation ≡ true

module _ (site : Site) (kept : Retained) (own : HasOwnPlaces site) where
  fits_reply : (tick : ℕ) (stored : Retained) (r : Request) (so_far : Operations) (reply : Option Reply) → IsNow site tick r → Outcome r reply
      → Fits site kept tick so_far stored → Fits site kept tick (after_reply r so_far reply) stored
  fits_reply tick stored r so_far reply here (told answer by same) h = record {
    keeps = subst (λ done. KeepsInForce site kept done (tick + 1) stored) (sym (same so_far.done)) h.keeps;
    sized = h.sized;
    by = subst (λ done. AreBy tick done) (sym (same so_far.done)) h.by;
    waiting = h.waiting;
  }
  fits_reply tick stored r so_far reply here (at_once none) h = record {
    keeps =
        keeps-other site kept so_far.done (tick + 1) stored (done_in r.tick r) (let e = here.same in
        omega (arith, e)) (unkept r.panel r.operation none) h.keeps;
    sized = h.sized;
    by = (let e = here.same in omega (arith, e), h.by);
    waiting = h.waiting;
  }
  fits_reply tick stored r so_far reply here (goes_on setting e) h = record {
    keeps = h.keeps;
    sized = h.sized;
    by = h.by;
    waiting =
        each_more (IsGood site) so_far.waiting r h.waiting
        (record { panel = here.panel; makes = changes site r.panel r.operation setting here.has e });
  }

  fits_desk : (tick : ℕ) (stored : Retained) (taken : List Request) (so_far : Operations) → AllByRecursion (IsNow site tick) taken
      → Fits site kept tick so_far stored → Fits site kept tick (after_desk site kept taken so_far) stored
  fits_desk tick stored [] so_far all h = h
  fits_desk tick stored (r ∷ taken) so_far all h =
      fits_desk tick stored taken (after_request site kept so_far r) all.1
      (fits_reply tick stored r so_far (desk_reply site kept r so_far) all.0 (outcome site kept r so_far) h)

  -- the counts leave settings as they were
  record Same (done : List Done) (x : ℕ) (stored : Retained) : Type 0 where
    keeps : KeepsInForce site kept done x stored
    sized : IsSized stored

  counted : (done : List Done) (x : ℕ) (panel : ℕ) (ticks : List ℕ) (stored : Retained) → IsPanelNumber panel → Same done x stored
      → Same done x (changed_by (count_of site kept done panel ticks) stored)
  counted done x panel [] stored p h = h
  counted done x panel (tick ∷ ticks) stored p h = record {
    keeps = keeps-count site kept done x stored panel (length (tick ∷ ticks)) h.keeps;
    sized = sized-changed (Count panel (length (tick ∷ ticks))) stored p h.sized;
  }

  all_counted : (done : List Done) (x : ℕ) (before : List Moment) (first many : ℕ) (stored : Retained) → 1 ≤ first → first + many ≤ 9
      → Same done x stored
      → Same done x
      (changed_by (flat_map (λ panel. count_of site kept done panel (new_entries site kept done panel before)) (range_with_len first many))
      stored)
  all_counted done x before first zero stored one few h = h
  all_counted done x before first (suc many) stored one few h =
      subst (λ s. Same done x s)
      (sym (changed_by-append (count_of site kept done first (new_entries site kept done first before))
      (flat_map (λ panel. count_of site kept done panel (new_entries site kept done panel before)) (range_with_len (first + 1) many)) stored))
      (all_counted done x before (first + 1) many (changed_by (count_of site kept done first (new_entries site kept done first before)) stored)
      (omega (arith, one)) (omega (arith, few))
      (counted done x first (new_entries site kept done first before) stored (one, omega (arith, few)) h))

  -- Keep's turn does what waits
  fits_all : (tick : ℕ) (waiting : List Request) (done : List Done) (stored : Retained) → AllByRecursion (IsGood site) waiting → AreBy tick done
      → Same done (tick + 1) stored
      → Same (do_all tick waiting done) (tick + 1) (changed_by (changes_of site waiting) stored) × AreBy tick (do_all tick waiting done)
  fits_all tick [] done stored all by h = (h, by)
  fits_all tick (r ∷ waiting) done stored all by h =
      subst (λ cs. Same (do_all tick (r ∷ waiting) done) (tick + 1) (changed_by cs stored) × AreBy tick (do_all tick (r ∷ waiting) done)) (sym made)
      (fits_all tick waiting (done_in tick r ∷ done) (changed all.0.makes.change stored) all.1 (omega arith, by)
      (record {
        keeps = keeps-change site kept done (tick + 1) stored (done_in tick r) all.0.makes.change own h.sized all.0.panel (omega arith) all.0.makes.is
            h.keeps;
        sized =
            sized-changed all.0.makes.change stored (can_apply site r.panel r.operation all.0.makes.change own all.0.panel all.0.makes.is) h.sized;
      }))
    where
      made : changes_of site (r ∷ waiting) ≡ all.0.makes.change ∷ changes_of site waiting
      made = rw all.0.makes.is refl

taken_now : (site : Site) (panel tick : ℕ) (asked : List Request) → site.panels ≤ 8
    → ((k : ℕ) (r : Request) → slice_get asked k ≡ Some r → IsPanel site.panels r.panel × (has_operands site r.panel r.operation ≡ true))
    → AllByRecursion (IsNow site tick) (requests_in panel tick asked)
taken_now site panel tick asked few of =
    each_filtered (IsNow site tick) (λ (r : Request). (r.panel == panel) && (r.tick == tick)) asked
    (λ k r is t. (let g = of k r is in let p = g.0 in record {
      same = eq_is r.tick tick (parts (r.panel == panel) (r.tick == tick) t).1;
      panel =
          (p.0, omega (arith, p.1, few));
      has = g.1;
    }))

module _ (site : Site) (kept : Retained) (valid : IsValid site) (sized : IsSized kept) where
  fits : (moments : List Moment) → AreOfSite site moments
      → Fits site kept (tick_of moments) (operations site kept moments) (kept_after site kept moments)
  fits [] of = record { keeps = keeps-none site kept 1; sized = sized; by = tt; waiting = tt }
  fits (Began ∷ before) of =
      let h = fits before of in
      record {
        keeps =
            keeps-later site kept (operations site kept before).done (tick_of before) (tick_of before + 1) (tick_of before + 1 + 1)
            (kept_after site kept before) h.by (omega arith) (omega arith) h.keeps;
        sized = h.sized;
        by = by_later (tick_of before) (tick_of before + 1) (operations site kept before).done (omega arith) h.by;
        waiting = h.waiting;
      }
  fits (Happened (Op panel code operation) ∷ before) of =
      let h = fits before (λ k r is. of k r (get_front (requests site before) _ k r is)) in
      record { keeps = h.keeps; sized = h.sized; by = h.by; waiting = h.waiting }
  fits (Happened (Point point state) ∷ before) of = let h = fits before of in
      record { keeps = h.keeps; sized = h.sized; by = h.by; waiting = h.waiting }
  fits (Happened (Cable panel line piece state) ∷ before) of = let h = fits before of in
      record { keeps = h.keeps; sized = h.sized; by = h.by; waiting = h.waiting }
  fits (Happened (Supply panel kind bad) ∷ before) of = let h = fits before of in
      record { keeps = h.keeps; sized = h.sized; by = h.by; waiting = h.waiting }
  fits (Happened (Link link up) ∷ before) of = let h = fits before of in record { keeps = h.keeps; sized = h.sized; by = h.by; waiting = h.waiting }
  fits (Happened (Confirmed output) ∷ before) of = let h = fits before of in
      record { keeps = h.keeps; sized = h.sized; by = h.by; waiting = h.waiting }
  fits (Turned panel Desk ∷ before) of =
      fits_desk site kept (own_places site valid) (tick_of before) (kept_after site kept before)
      (requests_in panel (tick_of before) (requests site before)) (operations site kept before)
      (taken_now site panel (tick_of before) (requests site before) valid.forms.panels.1 of) (fits before of)
  fits (Turned panel task ∷ before) of = let h = fits before of in record { keeps = h.keeps; sized = h.sized; by = h.by; waiting = h.waiting }
  fits (Kept true ∷ before) of = let h = fits before of in record { keeps = h.keeps; sized = h.sized; by = h.by; waiting = tt }
  fits (Kept false ∷ before) of =
      let h = fits before of in
      let so_far = operations site kept before in
      let counts_first =
      all_counted site kept (own_places site valid) (operations site kept before).done (tick_of before + 1) before 1 site.panels
      (kept_after site kept before) (omega arith) (let p = valid.forms.panels.1 in omega (arith, p)) (record { keeps = h.keeps; sized = h.sized })
      in
      let g = fits_all site kept (own_places site valid) (tick_of before) (operations site kept before).waiting (operations site kept before).done
      (changed_by (counts site kept (operations site kept before).done before) (kept_after site kept before)) h.waiting h.by counts_first in
      let joined =
      changed_by-append (counts site kept (operations site kept before).done before) (changes_of site (operations site kept before).waiting)
      (kept_after site kept before) in
      record {
        keeps =
            subst (λ s. KeepsInForce site kept (do_all (tick_of before) (operations site kept before).waiting (operations site kept before).done)
            (tick_of before + 1) s) (sym joined) g.0.keeps;
        sized = subst IsSized (sym joined) g.0.sized;
        by = g.1;
        waiting = tt;
      }

pub kept_in_force : KeptIsInForce
kept_in_force site kept moments setting valid sized of is = (fits site kept valid sized moments of).keeps setting is
