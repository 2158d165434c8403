use Rattle.std.proofs.Common.{◌≡◌, ◌∙◌, sym, true, false}
use Rattle.face_reading.proofs.EntryRead.{entry_read, none_read, other_read}
use Rattle.face_reading.proofs.entry_reading.read_entry.Goals as goal
use Rattle.face_reading.proofs.entry_reading.read_entry.Goals.{else-is_entry-via-then-is_entry+else-is_ended, else-is_entry-via-else-is_entry}

pub returns-in_err-entry : goal.returns-in_err-entry
returns-in_err-entry c =
    none_read c.args.site.now c.requires c.args.line.now c.candidate.result c.from_residual.result c.candidate.ensures.entry (cc) (cc)

pub returns-then-is_ended : goal.returns-then-is_ended
returns-then-is_ended c =
    let bytes = c.as_bytes.ensures.value ∙ c.as_str.ensures.value ∙ c.entry_line.ensures.text in
    entry_read c.args.site.now c.requires c.args.line.now c.as_bytes.result.now c.candidate.result c.in_ok-entry.entry c.candidate.ensures.entry (cc)
    (c.is_entry.ensures.0 c.if-is_entry.true)
    bytes (c.is_ended.ensures.0 c.if-is_ended.true)

pub returns-else-is_entry : goal.returns-else-is_entry
returns-else-is_entry c =
    other_read c.args.site.now c.requires c.args.line.now c.candidate.result c.in_ok-entry.entry c.candidate.ensures.entry (cc) (λ form same.
    elim c.else-is_entry.branch [
      | else-is_entry-via-then-is_entry+else-is_ended w ↦
          let bytes = w.as_bytes.ensures.value ∙ w.as_str.ensures.value ∙ w.entry_line.ensures.text in
          let e : true ≡ false = sym (w.is_ended.ensures.1 (bytes ∙ same)) ∙ w.if-is_ended.false in
          absurd (cc)
      | else-is_entry-via-else-is_entry w ↦
          let e : true ≡ false = sym (c.is_entry.ensures.1 form) ∙ w.if-is_entry.false in
          absurd (cc)
    ])
