-- What a run's text tells of all that was kept and done.
use Rattle.std.specs.Prelude.{◌≡◌, ◌≤◌, ℕ, List, length}
use Rattle.site_types.specs.declared.retained.Retained.{Retained}
use Rattle.site_types.specs.declared.site.Site.{Site}
use Rattle.site_types.specs.Done.{silence_before}
use Rattle.site_types.specs.Valid.{IsValid}
use Rattle.panel_rules.specs.Moments.{TickBlock, moments, up_to}
use Rattle.panel_rules.specs.Operations.{operations}
use Rattle.panel_rules.specs.Records.{AreOrdered}
use Rattle.panel_rules.specs.Timeline.{timeline_of}
use Rattle.run_text.specs.Failures.{as_recorded}
use Rattle.audit_rules.specs.Breaches.{Breach, BreaksOutput}
use Rattle.audit_laws.specs.AlikeOutputs.{AreAlikeAccounts}
use Rattle.audit_laws.specs.ZonesJudged.{account_of_run, account_of_text}

-- the text tells the same silence or resound of a panel as the last one before each tick. Of two in one tick both the
-- run and the text have the one of the greater number last
pub record TellsSilences (site : Site) (kept : Retained) (ticks : List TickBlock) : Type 0 where
  pub each : (panel x : ℕ)
      → silence_before panel x (account_of_text site (as_recorded ticks) (timeline_of site kept (moments ticks))).done
      ≡ silence_before panel x (operations site kept (moments ticks)).done

-- what the text tells is alike, up to each tick, to what the run has kept and done by then
pub record TellsAccount (site : Site) (kept : Retained) (ticks : List TickBlock) : Type 0 where
  pub each : (tick : ℕ) → tick ≤ length ticks
      → AreAlikeAccounts site (account_of_text site (as_recorded ticks) (timeline_of site kept (moments ticks)))
      (account_of_run site kept (up_to tick (moments ticks))) tick

-- where a run's text tells silences, what it tells is alike, up to each tick, to what the run has kept and done by then
abbrev pub AccountIsTold : Type 0
AccountIsTold =
    (site : Site) (kept : Retained) (ticks : List TickBlock) → IsValid site → AreOrdered site.panels ticks
    → TellsSilences site kept ticks → TellsAccount site kept ticks

-- where what a run's text tells is alike, up to each tick, to what the run has kept and done by then, the text shows no
-- output off that is due to be on, but for sounders of a panel that was silenced
abbrev pub OutputRuleIsKept : Type 0
OutputRuleIsKept =
    (site : Site) (kept : Retained) (ticks : List TickBlock) (breach : Breach) → IsValid site
    → AreOrdered site.panels ticks → TellsAccount site kept ticks → breach.tick ≤ length ticks
    → ¬ BreaksOutput site (as_recorded ticks) (timeline_of site kept (moments ticks)) breach
