-- What Keep has yet to commit of a panel's entries into the fire alarm condition: what Hold told but for those that are counted.
use Rattle.std.proofs.Common.{◌≡◌, ◌≢◌, ◌∙◌, ◌+◌, ◌-◌, ◌==◌, ◌&&◌, ◌++◌, ℕ, true, false, List, [], ◌∷◌, Option, Some, None, length, ap, arith, refl, subst, sym}
use Rattle.std.specs.List.{AllByRecursion}
use Rattle.tick_units.specs.declared.task.Task.TheVariants.{Desk}
use Rattle.site_types.specs.declared.retained.Retained.{Retained}
use Rattle.site_types.specs.declared.site.Site.{Site}
use Rattle.site_types.specs.Done.{Done, AreBy}
use Rattle.site_types.specs.Valid.{IsValid}
use Rattle.site_types.proofs.Done.{by_later}
use Rattle.site_types.proofs.LaterDone.{AreFrom}
use Rattle.panel_conditions.specs.Shown.{entries_after}
use Rattle.panel_laws.proofs.AnswerLaws.{eq_is}
use Rattle.panel_laws.specs.TimelineLaws.{counted_entries}
use Rattle.panel_laws.proofs.EntriesAddUp.{counted_once}
use Rattle.panel_laws.proofs.LaterDone.{Grew, counted_same, from_both, join, new_same, next_grew}
use Rattle.panel_rules.specs.Batches.{new_entries}
use Rattle.panel_rules.specs.Moments.{Moment, Began, Happened, Turned, Kept, IsPanel, IsRun, tick_of}
use Rattle.panel_rules.specs.Operations.{Reply, Request, Busy, Denied, Waiting, Already, Store, WasDone, Operations, after_desk}
use Rattle.panel_rules.specs.Operations.{after_reply, after_request, desk_reply, do_all, done_in, operations, requests, requests_in}
use Rattle.panel_rules.proofs.Bools.{parts}
use Rattle.panel_rules.proofs.Counting.{each_filtered}
use Rattle.panel_parts.specs.Applied.{applied, done_so_far}
use Rattle.hold_calls.specs.Told.{Told}
use Rattle.hold_calls.specs.Turns.{hold_turns}
use Rattle.panel_parts.proofs.Applied.{applied_begun, applied_stays}
use Rattle.hold_calls.proofs.EntriesHeld.{entries_by_told}

-- ---- what was done so far, and what of it is in force

by_reply : (tick : ℕ) (r : Request) (so_far : Operations) (reply : Option Reply) → r.tick ≡ tick → AreBy tick so_far.done
    → AreBy tick (after_reply r so_far reply).done
by_reply tick r so_far None now by = by
by_reply tick r so_far (Some Busy) now by = by
by_reply tick r so_far (Some (Denied needs has)) now by = by
by_reply tick r so_far (Some Waiting) now by = by
by_reply tick r so_far (Some Already) now by = by
by_reply tick r so_far (Some Store) now by = by
by_reply tick r so_far (Some WasDone) now by = (omega (arith, now), by)

module _ (site : Site) (kept : Retained) where
  by_desk : (tick : ℕ) (taken : List Request) (so_far : Operations) → AllByRecursion (λ (r : Request). r.tick ≡ tick) taken → AreBy tick so_far.done
      → AreBy tick (after_desk site kept taken so_far).done
  by_desk tick [] so_far all by = by
  by_desk tick (r ∷ taken) so_far all by =
      by_desk tick taken (after_request site kept so_far r) all.1 (by_reply tick r so_far (desk_reply site kept r so_far) all.0 by)

  by_all : (tick : ℕ) (waiting : List Request) (done : List Done) → AreBy tick done → AreBy tick (do_all tick waiting done)
  by_all tick [] done by = by
  by_all tick (r ∷ waiting) done by = by_all tick waiting (done_in tick r ∷ done) (omega arith, by)

  -- all that was done so far was done by now
  pub done_by_now : (before : List Moment) → AreBy (tick_of before) (done_so_far site kept before)
  done_by_now [] = tt
  done_by_now (Began ∷ before) =
      by_later (tick_of before) (tick_of before + 1) (done_so_far site kept before) (omega arith) (done_by_now before)
  done_by_now (Happened event ∷ before) = done_by_now before
  done_by_now (Turned panel Desk ∷ before) =
      by_desk (tick_of before) (requests_in panel (tick_of before) (requests site before)) (operations site kept before)
      (each_filtered (λ (r : Request). r.tick ≡ tick_of before) (λ (r : Request). (r.panel == panel) && (r.tick == tick_of before))
      (requests site before)
      (λ k r is t. eq_is r.tick (tick_of before) (parts (r.panel == panel) (r.tick == tick_of before) t).1))
      (done_by_now before)
  done_by_now (Turned panel task ∷ before) = done_by_now before
  done_by_now (Kept true ∷ before) = done_by_now before
  done_by_now (Kept false ∷ before) =
      by_all (tick_of before) (operations site kept before).waiting (operations site kept before).done (done_by_now before)

  -- what is not in force yet was done in this tick
  grew_in_tick : (moment : Moment) (before : List Moment) → tick_of (moment ∷ before) ≡ tick_of before
      → Grew (applied site kept before) (done_so_far site kept before) (tick_of before)
      → Grew (applied site kept (moment ∷ before)) (done_so_far site kept (moment ∷ before)) (tick_of (moment ∷ before))
  grew_in_tick moment before same grew =
      let next = next_grew site kept moment before in
      record {
        new = next.new ++ grew.new;
        is =
            next.is ∙ ap (λ ds. next.new ++ ds) grew.is ∙ join next.new grew.new (applied site kept before)
            ∙ ap (λ ds. (next.new ++ grew.new) ++ ds) (applied_stays site kept moment before same);
        from = subst (λ t. AreFrom t (next.new ++ grew.new)) (sym same) (from_both (tick_of before) next.new grew.new next.from grew.from);
      }

  pub grew_since_applied : (before : List Moment) → Grew (applied site kept before) (done_so_far site kept before) (tick_of before)
  grew_since_applied [] = record { new = []; is = refl; from = tt }
  grew_since_applied (Began ∷ before) = record { new = []; is = applied_begun site kept before (done_by_now before); from = tt }
  grew_since_applied (Happened event ∷ before) = grew_in_tick (Happened event) before refl (grew_since_applied before)
  grew_since_applied (Turned panel task ∷ before) = grew_in_tick (Turned panel task) before refl (grew_since_applied before)
  grew_since_applied (Kept failed ∷ before) = grew_in_tick (Kept failed) before refl (grew_since_applied before)

  -- so what goes by all that was done goes by what of it is in force, where no later operation changes it
  pub same_since_applied : {X : Type 0} (before : List Moment) (f : List Done → X)
      → ((new : List Done) → AreFrom (tick_of before) new → f (new ++ applied site kept before) ≡ f (applied site kept before))
      → f (done_so_far site kept before) ≡ f (applied site kept before)
  same_since_applied before f later = let grew = grew_since_applied before in ap f grew.is ∙ later grew.new grew.from

-- ---- what is left to Keep

module _ (site : Site) (kept : Retained) (panel : ℕ) (before : List Moment) where
  abbrev now_done : List Done
  now_done = done_so_far site kept before

  -- what is done more, in this tick or later, counts no entry so far otherwise
  counted_grown : (more less : List Done) → Grew less more (tick_of before)
      → counted_entries site kept more panel before ≡ counted_entries site kept less panel before
  counted_grown more less grew =
      ap (λ ds. counted_entries site kept ds panel before) grew.is
      ∙ counted_same site kept grew.new less (tick_of before) grew.from panel before (omega arith)

  new_grown : (more less : List Done) → Grew less more (tick_of before)
      → new_entries site kept more panel before ≡ new_entries site kept less panel before
  new_grown more less grew =
      ap (λ ds. new_entries site kept ds panel before) grew.is
      ∙ new_same site kept grew.new less (tick_of before) grew.from panel before (omega arith)

  module _ (told : Told) (valid : IsValid site) (run : IsRun site.panels before) (member : IsPanel site.panels panel) where
    -- each entry that Hold told was counted, or is yet to be
    pub told_by_hold : entries_after site kept panel (applied site kept before) (hold_turns site kept (applied site kept before) told panel before)
        ≡ counted_entries site kept now_done panel before + length (new_entries site kept now_done panel before)
    told_by_hold =
        let shown = entries_by_told site kept (applied site kept before) told panel before valid member run in
        let parted = counted_once site kept (applied site kept before) panel before in
        let grew = grew_since_applied site kept before in
        let counted = counted_grown now_done (applied site kept before) grew in
        let fresh = ap length (new_grown now_done (applied site kept before) grew) in
        omega (arith, shown, parted, counted, fresh)

    -- so the others are those that Keep's turn counts
    pub left_to_keep : (counted : ℕ) → counted ≡ counted_entries site kept now_done panel before
        → entries_after site kept panel (applied site kept before) (hold_turns site kept (applied site kept before) told panel before) - counted
        ≡ length (new_entries site kept (operations site kept before).done panel before)
    left_to_keep counted is = omega (arith, is, told_by_hold)

    -- and when it didn't fail, all are
    pub counted_by_keep : entries_after site kept panel (applied site kept before) (hold_turns site kept (applied site kept before) told panel before)
        ≡ counted_entries site kept (done_so_far site kept (Kept false ∷ before)) panel (Kept false ∷ before)
    counted_by_keep =
        let grew = next_grew site kept (Kept false) before in
        let counted = counted_grown (done_so_far site kept (Kept false ∷ before)) now_done grew in
        let fresh = ap length (new_grown (done_so_far site kept (Kept false ∷ before)) now_done grew) in
        omega (arith, told_by_hold, counted, fresh)

  -- ---- a moment later

  passed : (moment : Moment) (done : List Done) → moment ≢ Kept false
      → counted_entries site kept done panel (moment ∷ before) ≡ counted_entries site kept done panel before
  passed Began done other = refl
  passed (Happened event) done other = refl
  passed (Turned own task) done other = refl
  passed (Kept true) done other = refl
  passed (Kept false) done other = absurd (other refl)

  pub counted_stays : (moment : Moment) → moment ≢ Kept false
      → counted_entries site kept (done_so_far site kept (moment ∷ before)) panel (moment ∷ before)
      ≡ counted_entries site kept now_done panel before
  counted_stays moment other =
      passed moment (done_so_far site kept (moment ∷ before)) other
      ∙ counted_grown (done_so_far site kept (moment ∷ before)) now_done (next_grew site kept moment before)
