-- What the timeline of a run tells, and how entries into the fire alarm condition are counted, whatever
-- befell.
use Rattle.std.specs.Prelude.{◌≡◌, ◌≤◌, ◌<◌, ◌+◌, ◌-◌, ◌==◌, ◌&&◌, ℕ, min, Bool, true, false, List, [], ◌∷◌, length}
use Rattle.std.specs.Prelude.{Some, slice_get, if◌then◌else◌}
use Rattle.std.specs.List.{list_any}
use Rattle.site_types.specs.declared.operation.Operation.{Operation}
use Rattle.site_types.specs.declared.operation.Operation.TheVariants.{Mute, Override, Silence, Resound, Reset, Cancel}
use Rattle.site_types.specs.declared.operation.Operation.TheVariants.{Disable, Enable, Test, Untest, Delays, Clear}
use Rattle.site_types.specs.declared.retained.Retained.{Retained}
use Rattle.site_types.specs.declared.site.Site.{Site}
use Rattle.site_types.specs.Changes.{AreCounters}
use Rattle.site_types.specs.Done.{Done}
use Rattle.site_types.specs.Limits.{greatest_count}
use Rattle.face_text.specs.declared.step.Step.{Step}
use Rattle.panel_rules.specs.Moments.{Moment, Began, Happened, Turned, Kept, IsPanel, tick_of, up_to}
use Rattle.panel_rules.specs.Operations.{operations}
use Rattle.panel_rules.specs.Batches.{entries, kept_after, new_entries}
use Rattle.panel_rules.specs.Faces.{counter_in}
use Rattle.panel_rules.specs.Timeline.{answers_now, faces_of, failed_now, is_told, step_of, timeline_of}

-- the ticks of steps rise from after one on, and none is after another
abbrev pub AreRising : ℕ → ℕ → List Step → Type 0
AreRising before last [] = before ≤ last
AreRising before last (step ∷ steps) = (before < step.tick.0) × AreRising step.tick.0 last steps

-- the ticks of the steps rise, are at least 1 and don't pass the last
abbrev pub StepsRise : Type 0
StepsRise = (site : Site) (kept : Retained) (moments : List Moment)
    → AreRising 0 (tick_of moments) (timeline_of site kept moments).steps

-- each tick that is told has its step
abbrev pub ToldTicksAreSteps : Type 0
ToldTicksAreSteps =
    (site : Site) (kept : Retained) (moments : List Moment) (tick : ℕ) → 1 ≤ tick → tick ≤ tick_of moments
    → is_told site kept moments tick ≡ true
    → (place : ℕ)
    × (slice_get (timeline_of site kept moments).steps place
    ≡ Some (step_of site kept (up_to tick moments)))

-- in a tick that is not told no face changed, nothing was answered and Keep's turn did not fail
abbrev pub UntoldTicksChangeNothing : Type 0
UntoldTicksChangeNothing =
    (site : Site) (kept : Retained) (moments : List Moment) (tick : ℕ)
    → is_told site kept moments tick ≡ false
    → (faces_of site kept (up_to tick moments) ≡ faces_of site kept (up_to (tick - 1) moments))
    × (answers_now site kept (up_to tick moments) ≡ [])
    × (failed_now site kept (up_to tick moments) ≡ false)

module _ (site : Site) (kept : Retained) (done : List Done) (panel : ℕ) where
  -- how many entries the turns of Keep that did not fail have counted
  abbrev pub counted_entries : List Moment → ℕ
  counted_entries [] = 0
  counted_entries (Began ∷ before) = counted_entries before
  counted_entries (Happened event ∷ before) = counted_entries before
  counted_entries (Turned other task ∷ before) = counted_entries before
  counted_entries (Kept failed ∷ before) =
      if failed then counted_entries before else counted_entries before + length
      (new_entries site kept done panel before)

-- each entry into the fire alarm condition is counted by one turn of Keep, or is yet to be counted
abbrev pub EntriesAreCountedOnce : Type 0
EntriesAreCountedOnce =
    (site : Site) (kept : Retained) (done : List Done) (panel : ℕ) (moments : List Moment) →
    length (entries site kept done panel moments) ≡ counted_entries site kept done panel moments + length
    (new_entries site kept done panel moments)

-- the operation is the clearing of a counter
abbrev pub is_clearing : Operation → Bool
is_clearing Clear = true
is_clearing Mute = false
is_clearing Override = false
is_clearing Silence = false
is_clearing Resound = false
is_clearing Reset = false
is_clearing (Cancel zone) = false
is_clearing (Disable item) = false
is_clearing (Enable item) = false
is_clearing (Test zone) = false
is_clearing (Untest zone) = false
is_clearing (Delays on) = false

-- what was done clears the counter at the place of a panel's
abbrev pub clears_counter : ℕ → Done → Bool
clears_counter panel done = is_clearing done.operation && (done.panel - 1 == panel - 1)

-- the counter of a panel that nobody cleared is the one at opening and the entries that were counted, up to
-- 999,999
abbrev pub CountersAddUp : Type 0
CountersAddUp =
    (site : Site) (kept : Retained) (moments : List Moment) (panel : ℕ) → site.panels ≤ 8
    → IsPanel site.panels panel → length kept.counters ≡ 8 → AreCounters kept.counters
    → list_any (clears_counter panel) (operations site kept moments).done ≡ false
    → counter_in panel (kept_after site kept moments)
    ≡ min (counter_in panel kept + counted_entries site kept (operations site kept moments).done panel
    moments) greatest_count
