-- A run's text breaks no rule on zones, where its answers tell what was done.
use Rattle.std.specs.Prelude.{◌≤◌, ℕ, List, length}
use Rattle.site_types.specs.declared.retained.Retained.{Retained}
use Rattle.site_types.specs.declared.site.Site.{Site}
use Rattle.site_types.specs.Valid.{IsValid}
use Rattle.face_text.specs.declared.timeline.Timeline.{Timeline}
use Rattle.panel_rules.specs.Moments.{Moment, TickBlock, moments, up_to}
use Rattle.panel_rules.specs.Operations.{operations, requests}
use Rattle.panel_rules.specs.Records.{AreOrdered}
use Rattle.panel_rules.specs.Timeline.{timeline_of}
use Rattle.run_text.specs.Failures.{as_recorded}
use Rattle.audit_rules.specs.Breaches.{Breach, BreaksIndication, BreaksZone}
use Rattle.audit_rules.specs.ToldDone.{done_by_steps, retained_by}
use Rattle.audit_laws.specs.AlikeZones.{Account, AreAlikeForZones}

-- what a run has kept and done so far
abbrev pub account_of_run : Site → Retained → List Moment → Account
account_of_run site kept moments = record { kept = kept; done = (operations site kept moments).done }

-- what a run's whole text tells of what the run has kept and done, to whoever has the record
abbrev pub account_of_text : Site → List TickBlock → Timeline → Account
account_of_text site ticks timeline =
    record {
      kept = retained_by timeline.opened;
      done = done_by_steps (requests site (moments ticks)) timeline.steps;
    }

-- the text of a run tells of the settings of zones and points, of floors and of cancellings up to each tick what the
-- run has done by then
pub record TellsOfZones (site : Site) (kept : Retained) (ticks : List TickBlock) : Type 0 where
  pub each : (tick : ℕ) → tick ≤ length ticks
      → AreAlikeForZones site
      (account_of_text site (as_recorded ticks) (timeline_of site kept (moments ticks)))
      (account_of_run site kept (up_to tick (moments ticks))) tick

-- where a run's text tells of zones, up to each tick, what the run has done by then, it hides no zone that is due and
-- shows none that can have no cause
abbrev pub ZoneRulesAreKept : Type 0
ZoneRulesAreKept =
    (site : Site) (kept : Retained) (ticks : List TickBlock) (breach : Breach) → IsValid site
    → AreOrdered site.panels ticks → TellsOfZones site kept ticks → breach.tick ≤ length ticks
    → (¬ BreaksIndication site (as_recorded ticks) (timeline_of site kept (moments ticks)) breach)
    × (¬ BreaksZone site (as_recorded ticks) (timeline_of site kept (moments ticks)) breach)
