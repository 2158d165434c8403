-- The verdict on a record and a text, as bytes.
use Rattle.std.specs.Prelude.{◌≡◌, ◌≢◌, ℕ, List, length, Some, None}
use Rattle.site_types.specs.declared.site.Site.{Site}
use Rattle.record_lines.specs.declared.over.Over.TheVariants.{Ended, Refused}
use Rattle.record_lines.specs.declared.refusal.Refusal.{Refusal}
use Rattle.record_lines.specs.declared.why.Why.TheVariants.{Truncated}
use Rattle.record_lines.specs.Lines.{reading_of}
use Rattle.face_text.specs.declared.timeline.Timeline.{Timeline}
use Rattle.face_reading.specs.Reading.{IsBadLine, IsRead}
use Rattle.panel_rules.specs.Moments.{TickBlock}
use Rattle.audit_rules.specs.declared.audit_rule.AuditRule.TheVariants.{Length}
use Rattle.audit_rules.specs.declared.verdict.Verdict.{Verdict}
use Rattle.audit_rules.specs.declared.verdict.Verdict.TheVariants.{Passed, Failed, Record, Text}
use Rattle.audit_rules.specs.Breaches.{Breach, IsBreach, IsFirstBreach}
use Rattle.audit_rules.specs.RecordTicks.{ticks_of_record}

-- the verdict on ticks and a timeline: its length comes first, then the first breach decides
pub data IsJudged (site : Site) (ticks : List TickBlock) (timeline : Timeline) : Verdict → Type 0 where
  is_unequal : timeline.last.0 ≢ length ticks
      → IsJudged site ticks timeline (Failed timeline.last.0 Length 0 0)
  is_failed : timeline.last.0 ≡ length ticks → (breach : Breach) → IsFirstBreach site ticks timeline breach
      → IsJudged site ticks timeline (Failed breach.tick breach.rule breach.panel breach.number)
  is_passed : timeline.last.0 ≡ length ticks → ((breach : Breach) → ¬ IsBreach site ticks timeline breach)
      → IsJudged site ticks timeline (Passed (length ticks))

-- the ticks of a record's bytes
abbrev pub ticks_in_record : Site → List ℕ → List TickBlock
ticks_in_record site bytes = ticks_of_record site (reading_of site bytes).lines

-- the verdict on the bytes of a record and of a text: the record's refusal comes first, then the text's first bad
-- line
pub data IsVerdictOn (site : Site) (lines text : List ℕ) : Verdict → Type 0 where
  is_refused : (refusal : Refusal) → (reading_of site lines).ending ≡ Some (Refused refusal)
      → IsVerdictOn site lines text (Record refusal)
  is_cut_off : (reading_of site lines).ending ≡ None
      → IsVerdictOn site lines text (Record (record { line = (reading_of site lines).number; why = Truncated }))
  is_no_text : (reading_of site lines).ending ≡ Some Ended → (line : ℕ) → IsBadLine site text line
      → IsVerdictOn site lines text (Text line)
  is_judged : (reading_of site lines).ending ≡ Some Ended → (timeline : Timeline) → IsRead site text timeline
      → (verdict : Verdict) → IsJudged site (ticks_in_record site lines) timeline verdict
      → IsVerdictOn site lines text verdict
