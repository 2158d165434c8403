-- What follows for the batches of Keep: an operation that is done is in one that was committed, and a counter
-- that was cleared counts from 0.
use Rattle.std.specs.Prelude.{◌≡◌, ◌≤◌, ◌-◌, ◌==◌, ℕ, min, Bool, true, false, List, ◌∷◌, length, Some, slice_get}
use Rattle.std.specs.List.{list_any}
use Rattle.site_types.specs.declared.change.Change.{Change}
use Rattle.site_types.specs.declared.change.Change.TheVariants.{Point, Zone, Output, Delays, Count, Clear, Test}
use Rattle.site_types.specs.declared.operation.Operation.{Operation}
use Rattle.site_types.specs.declared.retained.Retained.{Retained}
use Rattle.site_types.specs.declared.site.Site.{Site}
use Rattle.site_types.specs.Changes.{AreCounters, operation_change}
use Rattle.site_types.specs.Done.{Setting, operation_setting}
use Rattle.site_types.specs.Events.{has_operands}
use Rattle.site_types.specs.Limits.{greatest_count}
use Rattle.panel_rules.specs.Moments.{Moment, Kept, IsPanel, IsPast, tick_of}
use Rattle.panel_rules.specs.Operations.{Answered, WasDone, operations}
use Rattle.panel_rules.specs.Batches.{batch, kept_after}
use Rattle.panel_rules.specs.Faces.{counter_in}
use Rattle.panel_laws.specs.TimelineLaws.{counted_entries}

-- in a tick there was a turn of Keep that did not fail, and a change stands in what it committed
pub record IsInABatch (site : Site) (kept : Retained) (moments : List Moment) (tick : ℕ) (change : Change) :
    Type 0 where
  pub before : List Moment
  pub turn : IsPast (Kept false ∷ before) moments
  pub in_tick : tick_of before ≡ tick
  pub place : ℕ
  pub holds : slice_get (batch site kept before) place ≡ Some change

-- the change that an operation makes, if it was done, was committed in the tick of its answer
abbrev pub DoneIsKept : Type 0
DoneIsKept =
    (site : Site) (kept : Retained) (moments : List Moment) (place : ℕ) (a : Answered) (change : Change)
    → slice_get (operations site kept moments).answers place ≡ Some a → a.reply ≡ WasDone
    → operation_change site a.request.panel a.request.operation ≡ Some change
    → IsInABatch site kept moments a.tick change

-- an operation on a setting or a counter makes a change, at a panel that has what it names
abbrev pub SettingsMakeChanges : Type 0
SettingsMakeChanges =
    (site : Site) (panel : ℕ) (operation : Operation) (setting : Setting)
    → operation_setting panel operation ≡ Some setting → has_operands site panel operation ≡ true
    → (change : Change) × (operation_change site panel operation ≡ Some change)

-- a change clears the counter at the place of a panel's
abbrev pub is_clearing_of : ℕ → Change → Bool
is_clearing_of panel (Clear other) = other - 1 == panel - 1
is_clearing_of panel (Point other line address off) = false
is_clearing_of panel (Zone other number off) = false
is_clearing_of panel (Output other number off) = false
is_clearing_of panel (Delays other off) = false
is_clearing_of panel (Count other entries) = false
is_clearing_of panel (Test other number on) = false

-- the batch of a turn of Keep made now clears the counter of a panel
abbrev pub is_cleared_now : Site → Retained → ℕ → List Moment → Bool
is_cleared_now site kept panel before = list_any (is_clearing_of panel) (batch site kept before)

-- what befell before the last turn of Keep that cleared the counter of a panel and did not fail
pub record IsLastCleared (site : Site) (kept : Retained) (panel : ℕ) (before moments : List Moment) :
    Type 0 where
  pub turn : IsPast (Kept false ∷ before) moments
  pub clears : is_cleared_now site kept panel before ≡ true
  pub last : (after : List Moment) → IsPast (Kept false ∷ before) after → IsPast (Kept false ∷ after) moments
      → is_cleared_now site kept panel after ≡ false

-- the entries that turns of Keep have counted since some of the past
abbrev pub counted_since : Site → Retained → ℕ → List Moment → List Moment → ℕ
counted_since site kept panel past moments =
    counted_entries site kept (operations site kept moments).done panel moments
    - counted_entries site kept (operations site kept moments).done panel past

-- the counter of a panel is what was counted since it was cleared, up to 999,999; the entries that the batch
-- that cleared it counted were cleared with it
abbrev pub ClearedCountsFromZero : Type 0
ClearedCountsFromZero =
    (site : Site) (kept : Retained) (moments : List Moment) (panel : ℕ) (before : List Moment)
    → site.panels ≤ 8 → IsPanel site.panels panel → length kept.counters ≡ 8 → AreCounters kept.counters
    → IsLastCleared site kept panel before moments
    → counter_in panel (kept_after site kept moments)
    ≡ min (counted_since site kept panel (Kept false ∷ before) moments) greatest_count
