-- What a site promises at the end of each tick of a run, over all its panels, operations and outputs.
use Rattle.std.specs.Prelude.{◌≡◌, ℕ, true, List, ◌++◌, Some, slice_get}
use Rattle.site_types.specs.declared.change.Change.{Change}
use Rattle.site_types.specs.declared.output.Output.{Output}
use Rattle.site_types.specs.declared.retained.Retained.{Retained}
use Rattle.site_types.specs.declared.site.Site.{Site}
use Rattle.site_types.specs.declared.zone.Zone.{Zone}
use Rattle.site_types.specs.Changes.{operation_change}
use Rattle.site_types.specs.Done.{Done}
use Rattle.site_types.specs.Valid.{IsValid}
use Rattle.panel_rules.specs.CausedOutputs.{IsCausedAtPanel, IsCausedOutput}
use Rattle.panel_rules.specs.Due.{IsDue}
use Rattle.panel_rules.specs.DueOutputs.{IsDueOn}
use Rattle.panel_rules.specs.Moments.{IsPanel, Moment, TickBlock, moments}
use Rattle.panel_rules.specs.Operations.{Answered, WasDone, operations}
use Rattle.panel_rules.specs.Records.{AreOrdered}
use Rattle.panel_rules.specs.Timeline.{face_of}
use Rattle.panel_laws.specs.BatchLaws.{IsInABatch}
use Rattle.panel_laws.specs.FaceLaws.{shows_output, shows_zone}

module _ (site : Site) (kept : Retained) where
  -- the operations that were done by then
  abbrev pub done_by : List Moment → List Done
  done_by moments = (operations site kept moments).done

  -- after a tick: each zone that is due at a panel is shown in its face and each output that is due is shown on,
  -- nothing is shown or on without a cause, and the change of each operation that was done is committed
  pub record HoldsPromises (moments : List Moment) : Type 0 where
    pub zone : (panel place : ℕ) (plan : Zone) → IsPanel site.panels panel → slice_get site.zones place ≡ Some plan
        → IsDue site kept (done_by moments) moments place panel
        → shows_zone (face_of site kept panel moments) plan ≡ true
    pub zone_cause : (panel place : ℕ) (plan : Zone) → IsPanel site.panels panel
        → slice_get site.zones place ≡ Some plan
        → shows_zone (face_of site kept panel moments) plan ≡ true
        → IsCausedAtPanel site kept (done_by moments) moments panel place
    pub output : (place : ℕ) (plan : Output) → slice_get site.outputs place ≡ Some plan
        → IsDueOn site kept (done_by moments) moments place
        → shows_output (face_of site kept plan.panel moments) plan ≡ true
    pub output_cause : (place : ℕ) (plan : Output) → slice_get site.outputs place ≡ Some plan
        → shows_output (face_of site kept plan.panel moments) plan ≡ true
        → IsCausedOutput site kept (done_by moments) moments place
    pub acknowledged : (place : ℕ) (answered : Answered) (change : Change)
        → slice_get (operations site kept moments).answers place ≡ Some answered → answered.reply ≡ WasDone
        → operation_change site answered.request.panel answered.request.operation ≡ Some change
        → IsInABatch site kept moments answered.tick change

  -- at the end of each of some ticks, the newest first, and at opening
  pub record KeepsPromises (ticks : List TickBlock) : Type 0 where
    pub each : (later earlier : List TickBlock) → ticks ≡ later ++ earlier → HoldsPromises (moments earlier)

-- a run of a valid site whose ticks have an order of its seats each keeps them, whatever these orders and
-- whatever befell
abbrev pub PromisesAreKept : Type 0
PromisesAreKept =
    (site : Site) (kept : Retained) (ticks : List TickBlock) → IsValid site → AreOrdered site.panels ticks
    → KeepsPromises site kept ticks
