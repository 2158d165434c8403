-- Outputs that are due to be on and that nothing excuses.
use Rattle.std.specs.Prelude.{◌≡◌, ◌↔◌, ◌&&◌, ℕ, Bool, false, IsTrue, List, length, Some, slice_get}
use Rattle.site_types.specs.declared.output.Output.{Output}
use Rattle.site_types.specs.declared.retained.Retained.{Retained}
use Rattle.site_types.specs.declared.site.Site.{Site}
use Rattle.site_types.specs.Done.{Done}
use Rattle.panel_rules.specs.DueOutputs.{IsDueOn}
use Rattle.panel_rules.specs.Moments.{Moment, TickBlock, moments, tick_of}
use Rattle.panel_rules.specs.Outputs.{is_sounder}
use Rattle.audit_rules.specs.Breaches.{was_silenced}
use Rattle.blocked_points.specs.declared.done_operation.DoneOperation.{DoneOperation}
use Rattle.blocked_points.specs.Operations.{done_newest_first}
use Rattle.excused_outputs.specs.declared.excused_outputs.ExcusedOutputs.{ExcusedOutputs}
use Rattle.excused_outputs.specs.Excused.{StandsFor as ExcusedStand}
use Rattle.due_outputs.specs.declared.due_outputs.DueOutputs.{DueOutputs}
use Rattle.due_outputs.specs.Stands.{StandsFor}

-- an output is due to be on, and is no sounder of a panel that was silenced
pub record IsDueUnexcused (site : Site) (kept : Retained) (done : List Done) (moments : List Moment) (panel place :
    ℕ) : Type 0 where
  pub due : IsDueOn site kept done moments place
  pub unexcused : (is_sounder site place && was_silenced panel (tick_of moments) done) ≡ false

-- whether it is, by all operations of which some stand for what is kept of the excuses
abbrev pub TellsDueOn : DueOutputs → ExcusedOutputs → ℕ → Output → Bool → Type 0
TellsDueOn due excused place output result =
    (site : Site) (kept : Retained) (operations : List DoneOperation) (ticks : List TickBlock)
    → slice_get site.outputs place ≡ Some output
    → StandsFor site kept (done_newest_first operations) ticks due
    → ExcusedStand site kept operations (length ticks) excused
    → IsTrue result ↔ IsDueUnexcused site kept (done_newest_first operations) (moments ticks) output.panel place
