-- What is found of the breaches after a tick.
use Rattle.std.specs.Prelude.{◌≡◌, ◌↔◌, ℕ, ◌≤◌, Bool, true, List, length, Option, option_map}
use Rattle.site_types.specs.declared.site.Site.{Site}
use Rattle.cause_effect.specs.Cycles.{HasNoCycle}
use Rattle.face_text.specs.declared.timeline.Timeline.{Timeline}
use Rattle.panel_rules.specs.Moments.{TickBlock, moments}
use Rattle.audit_rules.specs.Answering.{HasUnfounded}
use Rattle.audit_rules.specs.Breaches.{asked_in_record, done_by_text, kept_by_text}
use Rattle.blocked_points.specs.declared.done_operation.DoneOperation.{DoneOperation}
use Rattle.blocked_points.specs.Operations.{done_newest_first}
use Rattle.due_zones.specs.declared.due_zones.DueZones.{DueZones}
use Rattle.due_zones.specs.Telling.{AreDueAtEach}
use Rattle.tick_events.specs.Told.{ticks_until}
use Rattle.panel_audit.specs.declared.broken.Broken.{Broken}
use Rattle.panel_audit.specs.declared.judge.Judge.{Judge}
use Rattle.panel_audit.specs.declared.scan.Scan.{Scan}
use Rattle.panel_audit.specs.Breaking.{breach_in}
use Rattle.panel_audit.specs.Firsts.{FirstInTick}
use Rattle.panel_audit.specs.Judging.{JudgeStands}
use Rattle.panel_audit.specs.Numbers.{AreOutputNumbers, AreZoneNumbers}
use Rattle.panel_audit.specs.Scans.{HeardSolved}

-- the zones and outputs of the site are numbered, and the markers of each panel solved over some facts
pub record ScanStands (site : Site) (scan : Scan) : Type 0 where
  pub zones : AreZoneNumbers site.zones scan.zones.items
  pub outputs : AreOutputNumbers site.outputs scan.outputs.items
  pub heard : HeardSolved site scan.heard

-- what is known after a tick of a record
pub record IsScannedAfter (site : Site) (timeline : Timeline) (operations : List DoneOperation) (ticks : List TickBlock)
    (tick : ℕ) (judge : Judge) (due : List DueZones) (unfounded : Bool) : Type 0 where
  pub within : tick ≤ length ticks
  pub done : done_newest_first operations ≡ done_by_text site ticks timeline
  pub judged :
      JudgeStands site (kept_by_text site ticks timeline) timeline operations (ticks_until tick ticks) judge
  pub are_due : AreDueAtEach site (kept_by_text site ticks timeline) (done_newest_first operations)
      (moments (ticks_until tick ticks)) due
  pub answers : (unfounded ≡ true) ↔ HasUnfounded (asked_in_record site ticks timeline) timeline.steps tick

-- the first breach after the tick is found
abbrev pub FindsFirst : Site → Timeline → List DoneOperation → Judge → List DueZones → Bool → Scan → Option Broken
    → Type 0
FindsFirst site timeline operations judge due unfounded scan found =
    (ticks : List TickBlock) (tick : ℕ) → HasNoCycle site → ScanStands site scan
    → IsScannedAfter site timeline operations ticks tick judge due unfounded
    → FirstInTick site ticks timeline tick (option_map (breach_in tick) found)
