-- What is told of an audit, and the status with which it ends.
use Rattle.std.specs.Prelude.{ℕ, List, [], Result, Ok, Err}
use Rattle.audit_rules.specs.declared.verdict.Verdict.{Verdict}
use Rattle.audit_rules.specs.declared.verdict.Verdict.TheVariants.{Passed, Failed, Record, Text}
use Rattle.named_files.specs.Missing.{file_status, file_text}
use Rattle.program_status.specs.declared.status.Status.{Status}
use Rattle.program_status.specs.declared.status.Status.TheVariants as exit
use Rattle.refused_lines.specs.Refusals.{refusal_text}
use Rattle.audit_command.specs.Lines.{bad_line, failed_line, passed_line}
use Rattle.audit_command.specs.declared.audit_stop.AuditStop.{AuditStop}
use Rattle.audit_command.specs.declared.audit_stop.AuditStop.TheVariants.{NoRecord, NoText, NoMemory}

abbrev pub verdict_status : Verdict → Status
verdict_status (Passed ticks) = exit.Done
verdict_status (Failed tick rule panel number) = exit.AuditFailed
verdict_status (Record refusal) = exit.BadRecord
verdict_status (Text line) = exit.BadFile

abbrev pub verdict_text : Verdict → List ℕ
verdict_text (Passed ticks) = passed_line ticks
verdict_text (Failed tick rule panel number) = failed_line tick rule panel number
verdict_text (Record refusal) = refusal_text refusal
verdict_text (Text line) = bad_line line

abbrev pub audit_status : Result Verdict AuditStop → Status
audit_status (Ok verdict) = verdict_status verdict
audit_status (Err (NoRecord stop)) = file_status stop
audit_status (Err (NoText stop)) = file_status stop
audit_status (Err NoMemory) = exit.NoMemory

-- what is told of the files of a record and of a text; nothing is said of want of memory
abbrev pub audit_text : List ℕ → List ℕ → Result Verdict AuditStop → List ℕ
audit_text lines_name text_name (Ok verdict) = verdict_text verdict
audit_text lines_name text_name (Err (NoRecord stop)) = file_text lines_name stop
audit_text lines_name text_name (Err (NoText stop)) = file_text text_name stop
audit_text lines_name text_name (Err NoMemory) = []
