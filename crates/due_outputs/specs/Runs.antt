-- Runs of ticks in which something lasts without a gap.
use Rattle.std.specs.Prelude.{◌≡◌, ◌≤◌, ◌+◌, ◌-◌, ◌==◌, ℕ, Bool, true, false, List, length, Some, slice_get}
use Rattle.std.specs.Prelude.{if◌then◌else◌}
use Rattle.site_types.specs.declared.output.Output.{Output}
use Rattle.site_types.specs.declared.site.Site.{Site}
use Rattle.asked_markers.specs.Solved.{TellsAsked}
use Rattle.due_outputs.specs.declared.output_run.OutputRun.{OutputRun}
use Rattle.due_outputs.specs.declared.panel_markers.PanelMarkers.{PanelMarkers}

-- by a tick something has lasted since another tick; since 0 where it doesn't hold now. Ticks count from 1
pub record LastsSince (Holds : ℕ → Type 0) (now since : ℕ) : Type 0 where
  pub by : since ≤ now
  pub through : (tick : ℕ) → 1 ≤ since → since ≤ tick → tick ≤ now → Holds tick
  pub ended : since ≡ 0 → 1 ≤ now → Holds now → ⊥
  pub began : (before : ℕ) → 1 ≤ before → before + 1 ≡ since → Holds before → ⊥

-- the tick since which something lasts, after one more tick in which it holds or not; 0 where it doesn't
abbrev pub since_with : ℕ → Bool → ℕ → ℕ
since_with now false since = 0
since_with now true since = if since == 0 then now else since

abbrev pub output_run_with : ℕ → Bool → Bool → OutputRun → OutputRun
output_run_with now asked by_hand run = record { since = since_with now asked run.since; by_hand = by_hand }

-- the runs of so many outputs, none of which has begun
pub record AreNoRuns (count : ℕ) (runs : List OutputRun) : Type 0 where
  pub size : length runs ≡ count
  pub each : (place : ℕ) (run : OutputRun) → slice_get runs place ≡ Some run
      → run ≡ record { since = 0; by_hand = false }

-- one more tick for the run of the output at a place, as the markers of its panel tell whether it is asked
pub record TakesRun (site : Site) (panels : List PanelMarkers) (now place : ℕ) (old new : OutputRun) : Type 0 where
  pub output : Output
  pub is : slice_get site.outputs place ≡ Some output
  pub markers : PanelMarkers
  pub at_panel : slice_get panels (output.panel - 1) ≡ Some markers
  pub asked : Bool
  pub tells_asked : TellsAsked markers.out output asked
  pub by_hand : Bool
  pub tells_by_hand : TellsAsked markers.hand output by_hand
  pub goes_on : new ≡ output_run_with now asked by_hand old

-- one more tick for the runs of the outputs, each as the markers of the output's panel tell whether it is asked
pub record TakeRuns (site : Site) (panels : List PanelMarkers) (now : ℕ) (old new : List OutputRun) : Type 0 where
  pub size : length new ≡ length old
  pub each : (place : ℕ) (before after : OutputRun) → slice_get old place ≡ Some before
      → slice_get new place ≡ Some after → TakesRun site panels now place before after
