-- Each output that a run's text shows on can have a cause.
use Rattle.std.specs.Prelude.{◌≤◌, ℕ, List, length}
use Rattle.site_types.specs.declared.retained.Retained.{Retained}
use Rattle.site_types.specs.declared.site.Site.{Site}
use Rattle.site_types.specs.Done.{Done}
use Rattle.site_types.specs.Valid.{IsValid}
use Rattle.panel_rules.specs.Caused.{IsCausedAt, IsCausedOut}
use Rattle.panel_rules.specs.CausedOutputs.{before_effect}
use Rattle.panel_rules.specs.Kept.{heard}
use Rattle.panel_rules.specs.Moments.{IsPanel, Moment, TickBlock, moments}
use Rattle.panel_rules.specs.Records.{AreOrdered}
use Rattle.panel_rules.specs.Timeline.{timeline_of}
use Rattle.panel_laws.specs.FaceLaws.{HasEnded}
use Rattle.run_text.specs.Failures.{as_recorded}
use Rattle.audit_rules.specs.Breaches.{Breach, BreaksCause}
use Rattle.audit_rules.specs.Hearing.{MayBeHeard}
use Rattle.audit_laws.specs.AccountsTold.{TellsAccount}

-- what is caused to be released is caused to be in alarm
abbrev pub ReleasedIsInAlarm : Type 0
ReleasedIsInAlarm =
    (site : Site) (kept : Retained) (done : List Done) (moments : List Moment) (zone tick : ℕ)
    → IsCausedOut site kept done moments zone tick → IsCausedAt site kept done moments zone tick

-- what a panel had heard at the turn of Effect that its outputs go by is a stamp that it may have heard by now
abbrev pub HeardAtEffectMayBe : Type 0
HeardAtEffectMayBe =
    (site : Site) (kept : Retained) (done : List Done) (moments : List Moment) (panel source : ℕ)
    → HasEnded site moments → IsPanel site.panels panel → IsPanel site.panels source
    → MayBeHeard site moments panel source
    (heard site.panels panel source (before_effect site kept done moments panel))

-- where what a run's text tells is alike, up to each tick, to what the run has kept and done by then, the text shows no
-- output on that can have no cause
abbrev pub CauseRuleIsKept : Type 0
CauseRuleIsKept =
    (site : Site) (kept : Retained) (ticks : List TickBlock) (breach : Breach) → IsValid site
    → AreOrdered site.panels ticks → TellsAccount site kept ticks → breach.tick ≤ length ticks
    → ¬ BreaksCause site (as_recorded ticks) (timeline_of site kept (moments ticks)) breach
