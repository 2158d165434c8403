-- The verdict, from how record and text are read.
use Rattle.std.proofs.Common.{◌≡◌, ℕ, List, refl, sym, subst, Option, Some, None, Result, Ok, Err}
use Rattle.std.specs.Prelude.{IfOk}
use Rattle.site_types.specs.declared.site.Site.{Site}
use Rattle.record_lines.specs.declared.line.Line.{Line}
use Rattle.record_lines.specs.declared.over.Over.{Over}
use Rattle.record_lines.specs.declared.over.Over.TheVariants.{Ended, Refused}
use Rattle.record_lines.specs.declared.refusal.Refusal.{Refusal}
use Rattle.record_lines.specs.Lines.{reading_of}
use Rattle.face_text.specs.declared.timeline.Timeline.{Timeline}
use Rattle.face_reading.specs.Reading.{IsRead}
use Rattle.audit_rules.specs.declared.verdict.Verdict.{Verdict}
use Rattle.audit_rules.specs.declared.verdict.Verdict.TheVariants.{Record}
use Rattle.audit_rules.specs.RecordTicks.{ticks_of_record}
use Rattle.audit_rules.specs.Verdicts.{IsJudged, IsVerdictOn, is_cut_off, is_judged, is_refused}
use Rattle.whole_records.specs.Whole.{EndsRefused, IsWholeRecord}
use Rattle.panel_audit.specs.Texts.{JudgesText}
use Rattle.panel_audit.proofs.Orders.{whole_ordered}

pub if_ok : {T E : Type 0} {P Q : T → Type 0} (r : Result T E) → ((x : T) → P x → Q x) → IfOk r P → IfOk r Q
if_ok (Ok x) f h = f x h
if_ok (Err e) f h = h

-- a record that is refused
by_ending : (site : Site) (lines text : List ℕ) (refusal : Refusal) (ending : Option Over) → (reading_of site lines).ending ≡ ending
    → EndsRefused (reading_of site lines).number ending refusal → IsVerdictOn site lines text (Record refusal)
by_ending site lines text refusal None is why = subst (λ r. IsVerdictOn site lines text (Record r)) (sym why) (is_cut_off is)
by_ending site lines text refusal (Some Ended) is why = absurd why
by_ending site lines text refusal (Some (Refused other)) is why =
    subst (λ r. IsVerdictOn site lines text (Record r)) (sym why) (is_refused other is)

pub refused_verdict : (site : Site) (lines text : List ℕ) (refusal : Refusal) → EndsRefused (reading_of site lines).number (reading_of site lines).ending refusal
    → IsVerdictOn site lines text (Record refusal)
refused_verdict site lines text refusal why = by_ending site lines text refusal (reading_of site lines).ending refl why

-- one that is read to its end, with a text that is read
pub judged_verdict : (site : Site) (bytes text : List ℕ) (lines : List Line) (timeline : Timeline) (verdict : Verdict) → IsWholeRecord site bytes lines
    → IsRead site text timeline → JudgesText site lines timeline verdict → IsVerdictOn site bytes text verdict
judged_verdict site bytes text lines timeline verdict whole read judges =
    is_judged whole.ended timeline read verdict
    (subst (λ ls. IsJudged site (ticks_of_record site ls) timeline verdict) whole.are (judges read.form (whole_ordered site bytes lines whole)))
