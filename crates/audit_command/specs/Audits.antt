-- What comes of an audit, by the bytes under the names of a record and of a text.
use Rattle.std.specs.Prelude.{ℕ, List, Option, Result, Ok, Err, IfSome, ⊤}
use Rattle.audit_rules.specs.Verdicts.{IsVerdictOn}
use Rattle.audit_rules.specs.declared.verdict.Verdict.{Verdict}
use Rattle.named_files.specs.Fetched.{HasNoBytes, IsWhole}
use Rattle.named_files.specs.declared.file_stop.FileStop.{FileStop}
use Rattle.named_files.specs.declared.file_stop.FileStop.TheVariants as file
use Rattle.panel_edges.specs.Faults.{Rose}
use Rattle.panel_edges.specs.Shelves.{file_of}
use Rattle.program_status.specs.declared.outcome.Outcome.{Outcome}
use Rattle.site_commands.specs.Commands.{AnswersBy, Tells}
use Rattle.site_commands.specs.Files.{Files}
use Rattle.site_commands.specs.Refusals.{stop_status, stop_text}
use Rattle.site_commands.specs.declared.stop.Stop.{Stop}
use Rattle.site_types.specs.declared.site.Site.{Site}
use Rattle.audit_command.specs.Endings.{audit_status, audit_text}
use Rattle.audit_command.specs.declared.audit_stop.AuditStop.{AuditStop}
use Rattle.audit_command.specs.declared.audit_stop.AuditStop.TheVariants.{NoRecord, NoText, NoMemory}

-- with both at hand there is a verdict on them, or memory ran out
abbrev pub AuditsBytes : Site → List ℕ → List ℕ → Result Verdict AuditStop → Type 0
AuditsBytes site lines text (Ok verdict) = IsVerdictOn site lines text verdict
AuditsBytes site lines text (Err (NoRecord stop)) = ⊥
AuditsBytes site lines text (Err (NoText stop)) = ⊥
AuditsBytes site lines text (Err NoMemory) = ⊤

-- With the bytes of a record at hand those of a text are judged by it, or there are none.
abbrev pub AuditsText : Type 0 → Site → List ℕ → Option (List ℕ) → Result Verdict AuditStop → Type 0
AuditsText rose site lines file (Ok verdict) = (text : List ℕ) × IsWhole file text × IsVerdictOn site lines text verdict
AuditsText rose site lines file (Err (NoRecord stop)) = ⊥
AuditsText rose site lines file (Err (NoText stop)) = HasNoBytes rose file stop
AuditsText rose site lines file (Err NoMemory) = (text : List ℕ) × IsWhole file text

-- What comes of the files under two names: the record's decides where it isn't at hand, then the text's.
abbrev pub AuditsFiles : Type 0 → Site → Option (List ℕ) → Option (List ℕ) → Result Verdict AuditStop → Type 0
AuditsFiles rose site record_file text_file (Err (NoRecord stop)) = HasNoBytes rose record_file stop
AuditsFiles rose site record_file text_file audited =
    (lines : List ℕ) × IsWhole record_file lines × AuditsText rose site lines text_file audited

-- a file can't be read
abbrev pub IsReadFault : FileStop → Type 0
IsReadFault file.NoFile = ⊥
IsReadFault file.ReadFault = ⊤
IsReadFault file.NoMemory = ⊥

abbrev pub IsShelfFault : Result Verdict AuditStop → Type 0
IsShelfFault (Ok verdict) = ⊥
IsShelfFault (Err (NoRecord stop)) = IsReadFault stop
IsShelfFault (Err (NoText stop)) = IsReadFault stop
IsShelfFault (Err NoMemory) = ⊥

-- which comes only where the shelf's count rose
abbrev pub BlamesShelf : Result Verdict AuditStop → ℕ → ℕ → Type 0
BlamesShelf audited before after = IsShelfFault audited → Rose before after

-- with a site at hand the two files are audited and what came of it is told; without one it is told why there is none
abbrev pub TellsAudit : Type 0 → List ℕ → List ℕ → Option (List ℕ) → Option (List ℕ) → Option (List ℕ) → Option (List ℕ)
    → Outcome → Result Site Stop → Type 0
TellsAudit rose lines_name text_name record_file text_file old new outcome (Ok site) =
    (audited : Result Verdict AuditStop) × AuditsFiles rose site record_file text_file audited
    × Tells (audit_status audited) (audit_text lines_name text_name audited) old new outcome
TellsAudit rose lines_name text_name record_file text_file old new outcome (Err stop) =
    Tells (stop_status stop) (stop_text stop) old new outcome

-- what an audit of the files of two names answers, by the files where the shelf tells them
abbrev pub AnswersAudit : Files → List ℕ → List ℕ → List ℕ → Option (List ℕ) → Option (List ℕ) → Outcome → Type 0
AnswersAudit files site lines_name text_name old new outcome = IfSome files.held (λ held.
    let rose = Rose files.faults_before files.faults_after in
    AnswersBy rose (file_of site held)
    (TellsAudit rose lines_name text_name (file_of lines_name held) (file_of text_name held) old new outcome))
