-- A panel enters the fire alarm condition once a tick at most.
use Rattle.std.proofs.Common.{ℕ, ◌+◌, ◌≤◌, Bool, true, false, List, [], ◌∷◌, length, inl, inr, if◌then◌else◌, arith}
use Rattle.std.proofs.lemmas.Bool.Decides.{eqb_tells}
use Rattle.tick_units.specs.declared.task.Task.TheVariants.{Poll, Decide, Supply, Desk, Hold, Link, Effect, Drive, Keep}
use Rattle.site_types.specs.declared.retained.Retained.{Retained}
use Rattle.site_types.specs.declared.site.Site.{Site}
use Rattle.site_types.specs.Done.{Done}
use Rattle.panel_rules.specs.Moments.{Moment, Began, Happened, Turned, Kept, IsRun, has_turned, tick_of}
use Rattle.panel_rules.specs.Batches.{enters, new_entries}
use Rattle.panel_rules.proofs.Counts.{of_panel}
use Rattle.keep_batch.specs.MakingLaws.{FewEntriesAreNew}

-- an entry may yet come in the tick that began last
abbrev may_come : Bool → ℕ
may_come turned = if turned then 0 else 1

one_more : (b : Bool) (tick most : ℕ) (fresh : List ℕ) → length fresh + 1 ≤ most → length (if b then tick ∷ fresh else fresh) + 0 ≤ most
one_more true tick most fresh h = omega (arith, h)
one_more false tick most fresh h = omega (arith, h)

none_left : (b : Bool) (owed most : ℕ) (fresh : List ℕ) → length fresh + owed ≤ most → length (if b then fresh else []) + owed ≤ most
none_left true owed most fresh h = h
none_left false owed most fresh h = omega (arith, h)

module _ (site : Site) (kept : Retained) (done : List Done) (panel : ℕ) where
  few : (before : List Moment) → IsRun site.panels before
      → length (new_entries site kept done panel before) + may_come (has_turned panel Hold before) ≤ tick_of before
  few [] run = omega arith
  few (Began ∷ before) run = let ih = few before run.0 in omega (arith, ih)
  few (Happened event ∷ before) run = few before run.0
  few (Turned other Hold ∷ before) run =
      elim (eqb_tells other panel) [
        | inl h ↦
            (let ih = rw (of_panel other panel Hold before h.1 run.1) at (few before run.0) in
            rw h.0 (one_more (enters site kept done panel before) (tick_of before) (tick_of before) (new_entries site kept done panel before) ih))
        | inr h ↦ rw h.0 (few before run.0)
      ]
  few (Turned other Poll ∷ before) run = few before run.0
  few (Turned other Decide ∷ before) run = few before run.0
  few (Turned other Supply ∷ before) run = few before run.0
  few (Turned other Desk ∷ before) run = few before run.0
  few (Turned other Link ∷ before) run = few before run.0
  few (Turned other Effect ∷ before) run = few before run.0
  few (Turned other Drive ∷ before) run = few before run.0
  few (Turned other Keep ∷ before) run = few before run.0
  few (Kept failed ∷ before) run =
      none_left failed (may_come (has_turned panel Hold before)) (tick_of before) (new_entries site kept done panel before) (few before run.0)

pub few_entries_are_new : FewEntriesAreNew
few_entries_are_new site kept done panel before run = let h = few site kept done panel before run in omega (arith, h)
