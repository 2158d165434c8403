-- What a run writes passes an audit.
use Rattle.std.specs.Prelude.{◌≡◌, ℕ, List, Some, length}
use Rattle.site_types.specs.declared.retained.Retained.{Retained}
use Rattle.site_types.specs.declared.site.Site.{Site}
use Rattle.site_types.specs.Valid.{IsValid}
use Rattle.record_lines.specs.declared.over.Over.TheVariants.{Ended}
use Rattle.record_lines.specs.Lines.{reading_of}
use Rattle.panel_rules.specs.Moments.{TickBlock, moments}
use Rattle.panel_rules.specs.Records.{AreOrdered}
use Rattle.panel_rules.specs.Timeline.{text_of_run, timeline_of}
use Rattle.panel_laws.specs.FormLaws.{CanBeTold}
use Rattle.run_text.specs.Failures.{as_recorded}
use Rattle.audit_rules.specs.declared.verdict.Verdict.TheVariants.{Passed}
use Rattle.audit_rules.specs.Verdicts.{IsJudged, IsVerdictOn, ticks_in_record}

-- the timeline of a run of a valid site passes against its ticks as a record tells them, whatever was kept, befell and
-- failed
abbrev pub RunsPass : Type 0
RunsPass =
    (site : Site) (kept : Retained) (ticks : List TickBlock) → IsValid site → AreOrdered site.panels ticks
    → IsJudged site (as_recorded ticks) (timeline_of site kept (moments ticks)) (Passed (length ticks))

-- the bytes of the text of a run that can be told pass against those of each record that is read to its end and tells
-- the ticks of the run
abbrev pub TextsPass : Type 0
TextsPass =
    (site : Site) (kept : Retained) (ticks : List TickBlock) (lines : List ℕ) → CanBeTold site kept (moments ticks)
    → AreOrdered site.panels ticks → (reading_of site lines).ending ≡ Some Ended
    → ticks_in_record site lines ≡ as_recorded ticks
    → IsVerdictOn site lines (text_of_run site kept (moments ticks)) (Passed (length ticks))
