-- What is kept of the ticks that were taken, and what it tells.
use Rattle.std.specs.Prelude.{◌≡◌, ◌↔◌, ◌⊎◌, ◌+◌, ℕ, Bool, true, IsTrue, List, ◌∷◌, length, Some, slice_get}
use Rattle.site_types.specs.declared.output.Output.{Output}
use Rattle.site_types.specs.declared.retained.Retained.{Retained}
use Rattle.site_types.specs.declared.site.Site.{Site}
use Rattle.site_types.specs.Done.{Done}
use Rattle.cause_effect.specs.Cycles.{HasNoCycle}
use Rattle.panel_rules.specs.DueOutputs.{IsDueAsked, IsDueAskedByHand, IsDueThrough}
use Rattle.panel_rules.specs.Moments.{TickBlock, moments, up_to}
use Rattle.due_zones.specs.declared.due_zones.DueZones.{DueZones}
use Rattle.due_zones.specs.Telling.{AreDueAtEach}
use Rattle.due_outputs.specs.declared.due_outputs.DueOutputs.{DueOutputs}
use Rattle.due_outputs.specs.declared.output_run.OutputRun.{OutputRun}
use Rattle.due_outputs.specs.Runs.{LastsSince}
use Rattle.due_outputs.specs.Solved.{HaveSolved}

-- after which of the ticks an output is due to be asked
abbrev pub IsAskedAfter : Site → Retained → List Done → List TickBlock → ℕ → ℕ → Type 0
IsAskedAfter site kept done ticks output tick = IsDueAsked site kept done (up_to tick (moments ticks)) output

-- since when an output is due to be asked, and whether it is due by hand
pub record IsRunOf (site : Site) (kept : Retained) (done : List Done) (ticks : List TickBlock) (output : ℕ)
    (run : OutputRun) : Type 0 where
  pub lasts : LastsSince (IsAskedAfter site kept done ticks output) (length ticks) run.since
  pub by_hand : (run.by_hand ≡ true) ↔ IsDueAskedByHand site kept done (moments ticks) output

pub record StandsFor (site : Site) (kept : Retained) (done : List Done) (ticks : List TickBlock) (due : DueOutputs) :
    Type 0 where
  pub tick : due.latest.0 ≡ length ticks
  pub solved : HaveSolved site due.panels
  pub size : length due.runs.items ≡ length site.outputs
  pub each : (output : ℕ) (run : OutputRun) → slice_get due.runs.items output ≡ Some run
      → IsRunOf site kept done ticks output run

-- the zones that are due at each panel at the end of one more tick are taken
abbrev pub TakesDue : Site → ℕ → List DueZones → DueOutputs → DueOutputs → Type 0
TakesDue site now due old new =
    (kept : Retained) (done : List Done) (tick : TickBlock) (ticks : List TickBlock) → HasNoCycle site
    → StandsFor site kept done ticks old → now ≡ length ticks + 1
    → AreDueAtEach site kept done (moments (tick ∷ ticks)) due → StandsFor site kept done (tick ∷ ticks) new

-- whether an output is due by hand, or was due to be asked for as long as its delay
abbrev pub TellsDueOutput : DueOutputs → ℕ → Output → Bool → Type 0
TellsDueOutput due place output result =
    (site : Site) (kept : Retained) (done : List Done) (ticks : List TickBlock) → StandsFor site kept done ticks due
    → slice_get site.outputs place ≡ Some output
    → IsTrue result ↔ (IsDueAskedByHand site kept done (moments ticks) place
    ⊎ IsDueThrough site kept done (moments ticks) place)
