-- The verdict on the ticks of a record.
use Rattle.std.specs.Prelude.{◌≡◌, ℕ, ◌==◌, Bool, false, List, [], length, Option, Some, None, option_map}
use Rattle.tick_units.specs.declared.tick.Tick.{Tick}
use Rattle.site_types.specs.declared.site.Site.{Site}
use Rattle.cause_effect.specs.Cycles.{HasNoCycle}
use Rattle.face_text.specs.declared.timeline.Timeline.{Timeline}
use Rattle.panel_rules.specs.Moments.{TickBlock, moments}
use Rattle.panel_rules.specs.Records.{AreOrdered}
use Rattle.audit_rules.specs.declared.verdict.Verdict.{Verdict}
use Rattle.audit_rules.specs.Breaches.{done_by_text, kept_by_text}
use Rattle.audit_rules.specs.Verdicts.{IsJudged}
use Rattle.blocked_points.specs.declared.done_operation.DoneOperation.{DoneOperation}
use Rattle.blocked_points.specs.Operations.{done_newest_first}
use Rattle.shown_causes.specs.Faults.{DoStepsRise}
use Rattle.tick_events.specs.declared.tick_events.TickEvents.{TickEvents}
use Rattle.tick_events.specs.Told.{TellsEvents}
use Rattle.told_operations.specs.Founding.{IsFirstUnfounded}
use Rattle.panel_audit.specs.declared.judge.Judge.{Judge}
use Rattle.panel_audit.specs.declared.scan.Scan.{Scan}
use Rattle.panel_audit.specs.Judging.{JudgeStands}
use Rattle.panel_audit.specs.Scanning.{ScanStands}

-- the tick, if there is one, is this one
abbrev pub is_at : Option Tick → ℕ → Bool
is_at None now = false
is_at (Some tick) now = tick.0 == now

-- what is known of a record and a text before any tick is judged
pub record IsCase (site : Site) (timeline : Timeline) (operations : List DoneOperation) (told : TickEvents) (unfounded :
    Option Tick) (ticks : List TickBlock) : Type 0 where
  pub acyclic : HasNoCycle site
  pub last : timeline.last.0 ≡ length ticks
  pub ordered : AreOrdered site.panels ticks
  pub rise : DoStepsRise timeline.steps
  pub events : TellsEvents ticks told
  pub done : done_newest_first operations ≡ done_by_text site ticks timeline
  pub answers : IsFirstUnfounded site (moments ticks) timeline.steps (option_map (λ (t : Tick). t.0) unfounded)

-- the ticks are judged where the auditor begins with the first
abbrev pub JudgesTicks : Site → Timeline → List DoneOperation → TickEvents → Option Tick → Judge → Scan → Verdict
    → Type 0
JudgesTicks site timeline operations told unfounded judge scan verdict =
    (ticks : List TickBlock) → IsCase site timeline operations told unfounded ticks
    → JudgeStands site (kept_by_text site ticks timeline) timeline operations [] judge → ScanStands site scan
    → IsJudged site ticks timeline verdict
