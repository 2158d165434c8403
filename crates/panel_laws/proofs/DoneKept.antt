-- The change of an operation that was done stands in a batch that was committed.
use Rattle.std.proofs.Common.{◌≡◌, ◌+◌, ℕ, suc, List, [], ◌∷◌, length, Option, Some, None, slice_get, true, false, refl, sym, ◌∙◌, ap}
use Rattle.std.specs.List.{AllByRecursion}
use Rattle.tick_units.specs.declared.task.Task.TheVariants.{Desk}
use Rattle.site_types.specs.declared.change.Change.{Change}
use Rattle.site_types.specs.declared.operation.Operation.{Operation}
use Rattle.site_types.specs.declared.operation.Operation.TheVariants.{Mute, Override, Silence, Resound, Reset, Cancel, Disable, Enable, Test, Untest, Delays, Clear}
use Rattle.site_types.specs.declared.retained.Retained.{Retained}
use Rattle.site_types.specs.declared.site.Site.{Site}
use Rattle.site_types.specs.Changes.{operation_change}
use Rattle.site_types.specs.Done.{operation_setting}
use Rattle.panel_rules.specs.Moments.{Moment, Began, Happened, Turned, Kept, tick_of, present, later}
use Rattle.panel_rules.specs.Operations.{Request, Reply, WasDone, Store, Answered, Operations, requests_in, requests, after_reply, desk_reply, after_request, after_desk, answer_all, operations}
use Rattle.panel_rules.specs.Batches.{changes_of, counts}
use Rattle.panel_laws.specs.OtherDeadlines.{is_by_desk}
use Rattle.panel_laws.specs.BatchLaws.{DoneIsKept, IsInABatch, SettingsMakeChanges}
use Rattle.panel_rules.proofs.Counting.{each_at, each_to}
use Rattle.panel_laws.proofs.DeskOutcomes.{Outcome, told, at_once, goes_on, outcome}
use Rattle.panel_rules.proofs.Places.{found_in, get_behind}
use Rattle.panel_laws.proofs.StoredSettings.{changes}

pub settings_make_changes : SettingsMakeChanges
settings_make_changes site panel operation setting e h = let g = changes site panel operation setting h e in (g.change, g.is)

-- what is on no setting makes no change
no_change : (site : Site) (panel : ℕ) (operation : Operation) → operation_setting panel operation ≡ None → (change : Change)
    → operation_change site panel operation ≡ Some change → ⊥
no_change site panel Mute e change is = cc
no_change site panel Override e change is = cc
no_change site panel Silence e change is = cc
no_change site panel Resound e change is = cc
no_change site panel Reset e change is = cc
no_change site panel (Cancel zone) e change is = cc
no_change site panel (Disable item) e change is = cc
no_change site panel (Enable item) e change is = cc
no_change site panel (Test zone) e change is = cc
no_change site panel (Untest zone) e change is = cc
no_change site panel (Delays on) e change is = cc
no_change site panel Clear e change is = cc

-- ---- over a run

module _ (site : Site) (kept : Retained) where
  abbrev IsKept : List Moment → Answered → Type 0
  IsKept moments a = a.reply ≡ WasDone → (change : Change) → operation_change site a.request.panel a.request.operation ≡ Some change
      → IsInABatch site kept moments a.tick change

  still : (moment : Moment) (before : List Moment) (a : Answered) → IsKept before a → IsKept (moment ∷ before) a
  still moment before a h done change makes =
      let g = h done change makes in record {
        before = g.before;
        turn = later moment before g.turn;
        in_tick = g.in_tick;
        place = g.place;
        holds =
            g.holds;
      }

  all_still : (moment : Moment) (before : List Moment) (answers : List Answered) → AllByRecursion (IsKept before) answers
      → AllByRecursion (IsKept (moment ∷ before)) answers
  all_still moment before answers all = each_to (IsKept before) (IsKept (moment ∷ before)) answers (still moment before) all

  -- Desk does only what makes no change
  kept_reply : (moments : List Moment) (r : Request) (so_far : Operations) (reply : Option Reply) → Outcome r reply
      → AllByRecursion (IsKept moments) so_far.answers
      → AllByRecursion (IsKept moments) (after_reply r so_far reply).answers
  kept_reply moments r so_far reply (told answer by same) all = (λ done change makes. absurd (let x = sym (ap is_by_desk done) ∙ by in cc), all)
  kept_reply moments r so_far reply (at_once none) all = (λ done change makes. absurd (no_change site r.panel r.operation none change makes), all)
  kept_reply moments r so_far reply (goes_on setting is) all = all

  kept_desk : (moments : List Moment) (taken : List Request) (so_far : Operations) → AllByRecursion (IsKept moments) so_far.answers
      → AllByRecursion (IsKept moments) (after_desk site kept taken so_far).answers
  kept_desk moments [] so_far all = all
  kept_desk moments (r ∷ taken) so_far all =
      kept_desk moments taken (after_request site kept so_far r)
      (kept_reply moments r so_far (desk_reply site kept r so_far) (outcome site kept r so_far) all)

  not_stored : (moments : List Moment) (tick : ℕ) (waiting : List Request) (answers : List Answered) → AllByRecursion (IsKept moments) answers
      → AllByRecursion (IsKept moments) (answer_all tick true waiting answers)
  not_stored moments tick [] answers all = all
  not_stored moments tick (r ∷ waiting) answers all =
      not_stored moments tick waiting (record { request = r; tick = tick; reply = Store } ∷ answers) (λ done change makes. absurd cc, all)

  was_stored : (moments : List Moment) (tick : ℕ) (waiting : List Request) (answers : List Answered)
      → ((k : ℕ) (r : Request) → slice_get waiting k ≡ Some r → (change : Change) → operation_change site r.panel r.operation ≡ Some change
      → IsInABatch site kept moments tick change)
      → AllByRecursion (IsKept moments) answers → AllByRecursion (IsKept moments) (answer_all tick false waiting answers)
  was_stored moments tick [] answers each all = all
  was_stored moments tick (r ∷ waiting) answers each all =
      was_stored moments tick waiting (record { request = r; tick = tick; reply = WasDone } ∷ answers) (λ k x is. each (suc k) x is)
      (λ done. each 0 r refl, all)

  all_kept : (moments : List Moment) → AllByRecursion (IsKept moments) (operations site kept moments).answers
  all_kept [] = tt
  all_kept (Began ∷ before) = all_still Began before (operations site kept before).answers (all_kept before)
  all_kept (Happened event ∷ before) = all_still (Happened event) before (operations site kept before).answers (all_kept before)
  all_kept (Turned panel Desk ∷ before) =
      kept_desk (Turned panel Desk ∷ before) (requests_in panel (tick_of before) (requests site before)) (operations site kept before)
      (all_still (Turned panel Desk) before (operations site kept before).answers (all_kept before))
  all_kept (Turned panel task ∷ before) = all_still (Turned panel task) before (operations site kept before).answers (all_kept before)
  all_kept (Kept true ∷ before) =
      not_stored (Kept true ∷ before) (tick_of before) (operations site kept before).waiting (operations site kept before).answers
      (all_still (Kept true) before (operations site kept before).answers (all_kept before))
  all_kept (Kept false ∷ before) =
      let so_far = operations site kept before in
      was_stored (Kept false ∷ before) (tick_of before) so_far.waiting so_far.answers
      (λ k r is change makes.
      (let g = found_in (λ (x : Request). operation_change site x.panel x.operation) so_far.waiting k r change is makes in
      let first = counts site kept so_far.done before in
      record {
        before = before;
        turn = present;
        in_tick = refl;
        place = g.place + length first;
        holds =
            get_behind first (changes_of site so_far.waiting) g.place ∙ g.is;
      }))
      (all_still (Kept false) before so_far.answers (all_kept before))

pub done_kept : DoneIsKept
done_kept site kept moments place a change is done makes =
    each_at (IsKept site kept moments) (operations site kept moments).answers place a (all_kept site kept moments) is done change makes
