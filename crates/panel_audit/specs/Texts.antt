-- The verdict on the lines of a record and what a text tells.
use Rattle.std.specs.Prelude.{List, map}
use Rattle.site_types.specs.declared.site.Site.{Site}
use Rattle.record_lines.specs.declared.line.Line.{Line}
use Rattle.record_lines.specs.Judged.{line_view}
use Rattle.face_text.specs.declared.timeline.Timeline.{Timeline}
use Rattle.face_text.specs.Timelines.{IsInForm}
use Rattle.panel_rules.specs.Records.{AreOrdered}
use Rattle.audit_rules.specs.declared.verdict.Verdict.{Verdict}
use Rattle.audit_rules.specs.RecordTicks.{ticks_of_record}
use Rattle.audit_rules.specs.Verdicts.{IsJudged}

abbrev pub JudgesText : Site → List Line → Timeline → Verdict → Type 0
JudgesText site lines timeline verdict = IsInForm site timeline
    → AreOrdered site.panels (ticks_of_record site (map line_view lines))
    → IsJudged site (ticks_of_record site (map line_view lines)) timeline verdict
