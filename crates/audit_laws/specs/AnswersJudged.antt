-- Each answer of a run's text is to an operation that was asked for by then, is the first to it, and is `done` only
-- with the level that it needs.
use Rattle.std.specs.Prelude.{List}
use Rattle.site_types.specs.declared.retained.Retained.{Retained}
use Rattle.site_types.specs.declared.site.Site.{Site}
use Rattle.panel_rules.specs.Moments.{TickBlock, moments}
use Rattle.panel_rules.specs.Records.{AreOrdered}
use Rattle.panel_rules.specs.Timeline.{timeline_of}
use Rattle.run_text.specs.Failures.{as_recorded}
use Rattle.audit_rules.specs.Breaches.{Breach, BreaksAnswer}

-- no answer in a run's text is one that nobody may have given
abbrev pub AnswerRuleIsKept : Type 0
AnswerRuleIsKept =
    (site : Site) (kept : Retained) (ticks : List TickBlock) (breach : Breach) → AreOrdered site.panels ticks
    → ¬ BreaksAnswer site (as_recorded ticks) (timeline_of site kept (moments ticks)) breach
