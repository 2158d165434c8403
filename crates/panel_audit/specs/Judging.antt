-- What an auditor keeps of the ticks so far.
use Rattle.std.specs.Prelude.{◌≡◌, ℕ, List, [], ◌∷◌, length}
use Rattle.site_types.specs.declared.event.Event.{Event}
use Rattle.site_types.specs.declared.retained.Retained.{Retained}
use Rattle.site_types.specs.declared.site.Site.{Site}
use Rattle.cause_effect.specs.Cycles.{HasNoCycle}
use Rattle.face_text.specs.declared.timeline.Timeline.{Timeline}
use Rattle.panel_rules.specs.Moments.{TickBlock, moments}
use Rattle.panel_rules.specs.Records.{AreOrdered}
use Rattle.blocked_points.specs.declared.done_operation.DoneOperation.{DoneOperation}
use Rattle.blocked_points.specs.Operations.{AreDoneInOrder, done_newest_first}
use Rattle.signal_points.specs.Stands.{StandsFor as SignalsStand}
use Rattle.signal_points.specs.States.{NextTick}
use Rattle.zone_signals.specs.StandsFor.{StandsFor as LeastStand}
use Rattle.joined_panels.specs.Stands.{StandsFor as JoinedStandsFor}
use Rattle.due_zones.specs.Telling.{AreDueAtEach}
use Rattle.due_zones.specs.declared.due_zones.DueZones.{DueZones}
use Rattle.due_outputs.specs.Stands.{StandsFor as DuesStand}
use Rattle.excused_outputs.specs.Excused.{StandsFor as ExcusedStand}
use Rattle.shown_causes.specs.Heard.{StandsFor as CausesStand}
use Rattle.shown_causes.specs.Faults.{DoStepsRise}
use Rattle.panel_audit.specs.ShownSteps.{ReadsUpTo}
use Rattle.panel_audit.specs.declared.judge.Judge.{Judge}

module _ (site : Site) (kept : Retained) (timeline : Timeline) (operations : List DoneOperation) where
  -- each part stands for these ticks
  pub record JudgeStands (ticks : List TickBlock) (judge : Judge) : Type 0 where
    pub signals : SignalsStand site kept operations ticks judge.signals
    pub least : LeastStand site kept operations (moments ticks) judge.least
    pub joined : JoinedStandsFor site ticks judge.joined
    pub dues : DuesStand site kept (done_newest_first operations) ticks judge.dues
    pub excused : ExcusedStand site kept operations (length ticks) judge.excused
    pub causes : CausesStand site kept operations timeline ticks judge.causes
    pub shown : ReadsUpTo timeline.steps (length ticks) judge.shown.steps

  -- before the first tick
  pub record Begins (judge : Judge) : Type 0 where
    pub stands : AreDoneInOrder operations → DoStepsRise timeline.steps → JudgeStands [] judge
    pub rows : length judge.rows.items ≡ length site.zones

-- the next tick is taken, and the zones that are due at each panel are told
abbrev pub TakesTick : Site → Timeline → List DoneOperation → ℕ → List Event → List DueZones → Judge → Judge → Type 0
TakesTick site timeline operations now events due old new =
    (kept : Retained) (ticks : List TickBlock) (tick : TickBlock) → HasNoCycle site
    → AreOrdered site.panels (tick ∷ ticks) → DoStepsRise timeline.steps → NextTick ticks tick now events
    → JudgeStands site kept timeline operations ticks old
    → JudgeStands site kept timeline operations (tick ∷ ticks) new
    × AreDueAtEach site kept (done_newest_first operations) (moments (tick ∷ ticks)) due
