-- Of a silence and a resound that a panel does in one tick, the text has the same one last as the run.
use Rattle.site_types.specs.declared.retained.Retained.{Retained}
use Rattle.site_types.specs.declared.site.Site.{Site}
use Rattle.std.specs.Prelude.{List}
use Rattle.panel_rules.specs.Moments.{TickBlock}
use Rattle.panel_rules.specs.Records.{AreOrdered}
use Rattle.audit_laws.specs.AccountsTold.{TellsSilences}

-- the text of each run tells silences and resounds in their order
abbrev pub SilencesAreTold : Type 0
SilencesAreTold =
    (site : Site) (kept : Retained) (ticks : List TickBlock) → AreOrdered site.panels ticks
    → TellsSilences site kept ticks
