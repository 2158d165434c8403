-- What is kept of the operations in force at a tick, and which outputs they excuse.
use Rattle.std.specs.Prelude.{◌≡◌, ◌≤◌, ◌<◌, ◌&&◌, ◌||◌, ℕ, Bool, List, Some, length, slice_get, take}
use Rattle.site_types.specs.declared.output.Output.{Output}
use Rattle.site_types.specs.declared.retained.Retained.{Retained}
use Rattle.site_types.specs.declared.site.Site.{Site}
use Rattle.site_types.specs.Done.{Done, OutputOff, in_force}
use Rattle.panel_rules.specs.Outputs.{is_sounder}
use Rattle.audit_rules.specs.Breaches.{was_silenced}
use Rattle.blocked_points.specs.declared.done_operation.DoneOperation.{DoneOperation}
use Rattle.blocked_points.specs.Operations.{AreDoneInOrder, done_newest_first}
use Rattle.excused_outputs.specs.Behind.{SettingsStand}
use Rattle.excused_outputs.specs.declared.excused_outputs.ExcusedOutputs.{ExcusedOutputs}

-- of these operations, the oldest first, those are in force that were done before the tick
pub record StandsFor (site : Site) (kept : Retained) (operations : List DoneOperation) (tick : ℕ) (excused :
    ExcusedOutputs) : Type 0 where
  pub in_order : AreDoneInOrder operations
  pub within : excused.in_force ≤ length operations
  pub earlier : (place : ℕ) (d : DoneOperation) → place < excused.in_force → slice_get operations place ≡ Some d
      → d.tick.0 < tick
  pub later : (place : ℕ) (d : DoneOperation) → excused.in_force ≤ place → slice_get operations place ≡ Some d
      → tick ≤ d.tick.0
  pub settings : SettingsStand site kept (done_newest_first (take excused.in_force operations)) excused.settings

-- an output is disabled at a tick, or is a sounder of a panel that was silenced
abbrev pub is_excused : Site → Retained → List Done → ℕ → ℕ → ℕ → Bool
is_excused site kept done tick panel place =
    in_force site kept (OutputOff place) tick done || (is_sounder site place && was_silenced panel tick done)

-- whether an output is excused at the tick, by whatever operations it stands for
abbrev pub TellsExcused : ExcusedOutputs → ℕ → Output → Bool → Type 0
TellsExcused excused place output result =
    (site : Site) (kept : Retained) (operations : List DoneOperation) (tick : ℕ)
    → slice_get site.outputs place ≡ Some output → StandsFor site kept operations tick excused
    → result ≡ is_excused site kept (done_newest_first operations) tick output.panel place
