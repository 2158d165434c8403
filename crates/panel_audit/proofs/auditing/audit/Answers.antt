use Rattle.std.proofs.Common.{subst}
use Rattle.face_reading.specs.Reading.{IsRefusal}
use Rattle.audit_rules.specs.Verdicts.{is_no_text}
use Rattle.whole_records.specs.Whole.{IsWhyRefused}
use Rattle.panel_audit.specs.Texts.{JudgesText}
use Rattle.panel_audit.proofs.Verdicts.{if_ok, judged_verdict, refused_verdict}
use Rattle.panel_audit.proofs.auditing.audit.Goals as goal

pub returns-in-Err-Line : goal.returns-in-Err-Line
returns-in-Err-Line c =
    rw c.in-Err-Line.refusal-is
    (refused_verdict c.args.site.now c.args.lines.now c.args.text.now c.in-Err-Line.refusal
    (subst (IsWhyRefused c.args.site.now c.args.lines.now) c.in-Err-Line.field-0-is c.in-Err-Line.ensures.refused))

pub returns-in-Ok-read_faces : goal.returns-in-Ok-read_faces
returns-in-Ok-read_faces c =
    if_ok c.judge_text.result
    (λ verdict judges. judged_verdict c.args.site.now c.args.lines.now c.args.text.now c.in-Ok.record c.in-Ok-read_faces.timeline verdict c.in-Ok.ensures.whole
    c.in-Ok-read_faces.ensures.ok (subst (λ ls. JudgesText c.args.site.now ls c.in-Ok-read_faces.timeline verdict) c.as_slice.ensures judges))
    c.judge_text.ensures

pub returns-in-Err-BadLine : goal.returns-in-Err-BadLine
returns-in-Err-BadLine c =
    rw c.in-Err-BadLine.line-is
    (is_no_text c.in-Ok.ensures.whole.ended c.in-Err-BadLine.line
    (subst (IsRefusal c.args.site.now c.args.text.now) c.in-Err-BadLine.field-0-is c.in-Err-BadLine.ensures.bad))
