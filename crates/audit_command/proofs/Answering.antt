-- What an audit answers, from what its parts answer.
use Rattle.std.proofs.Common.{◌≡◌, ℕ, ◌≤◌, List, Option, Some, None, Result, Ok, Err, subst}
use Rattle.std.specs.Prelude.{IfSome}
use Rattle.audit_rules.specs.Verdicts.{IsVerdictOn}
use Rattle.audit_rules.specs.declared.verdict.Verdict.{Verdict}
use Rattle.named_files.specs.Fetched.{IsWhole}
use Rattle.named_files.proofs.Sinces.{missing_since}
use Rattle.panel_edges.specs.Faults.{Rose}
use Rattle.panel_edges.specs.Shelves.{file_of}
use Rattle.panel_edges.proofs.Counting.{rose_since}
use Rattle.program_status.specs.declared.outcome.Outcome.{Outcome}
use Rattle.site_commands.specs.Commands.{AnswersBy, Tells}
use Rattle.site_commands.specs.Sites.{Loads}
use Rattle.site_types.specs.declared.site.Site.{Site}
use Rattle.audit_command.specs.Audits.{AuditsBytes, AuditsFiles, AuditsText, TellsAudit}
use Rattle.audit_command.specs.Endings.{audit_status, audit_text}
use Rattle.audit_command.specs.declared.audit_stop.AuditStop.{AuditStop}
use Rattle.audit_command.specs.declared.audit_stop.AuditStop.TheVariants.{NoRecord, NoText, NoMemory}

-- the bytes of a text are judged
pub text_judged : (held : Option (List (List ℕ × List ℕ))) (name : List ℕ) (rose : Type 0) (site : Site) (lines bytes read : List ℕ)
    (audited : Result Verdict AuditStop) → IfSome held (λ files. IsWhole (file_of name files) bytes) → read ≡ bytes → AuditsBytes site lines read audited
    → IfSome held (λ files. AuditsText rose site lines (file_of name files) audited)
text_judged None name rose site lines bytes read audited whole is judged = tt
text_judged (Some files) name rose site lines bytes read (Ok verdict) whole is judged =
    (bytes, whole, subst (λ (them : List ℕ). IsVerdictOn site lines them verdict) is judged)
text_judged (Some files) name rose site lines bytes read (Err (NoRecord stop)) whole is judged = absurd judged
text_judged (Some files) name rose site lines bytes read (Err (NoText stop)) whole is judged = absurd judged
text_judged (Some files) name rose site lines bytes read (Err NoMemory) whole is judged = (bytes, whole)

-- a fault of the shelf may have come earlier too
text_since : (rose since : Type 0) → (rose → since) → (site : Site) (lines : List ℕ) (file : Option (List ℕ)) (audited : Result Verdict AuditStop)
    → AuditsText rose site lines file audited → AuditsText since site lines file audited
text_since rose since f site lines file (Ok verdict) h = h
text_since rose since f site lines file (Err (NoRecord stop)) h = h
text_since rose since f site lines file (Err (NoText stop)) h = missing_since rose since f file stop h
text_since rose since f site lines file (Err NoMemory) h = h

pub files_since : (rose since : Type 0) → (rose → since) → (site : Site) (lines_file text_file : Option (List ℕ)) (audited : Result Verdict AuditStop)
    → AuditsFiles rose site lines_file text_file audited → AuditsFiles since site lines_file text_file audited
files_since rose since f site lines_file text_file (Ok verdict) h = h
files_since rose since f site lines_file text_file (Err (NoRecord stop)) h = missing_since rose since f lines_file stop h
files_since rose since f site lines_file text_file (Err (NoText stop)) h = (h.0, h.1, missing_since rose since f text_file stop h.2)
files_since rose since f site lines_file text_file (Err NoMemory) h = h

with_lines : (since : Type 0) (site : Site) (lines_file text_file : Option (List ℕ)) (bytes : List ℕ) (audited : Result Verdict AuditStop)
    → IsWhole lines_file bytes → AuditsText since site bytes text_file audited → AuditsFiles since site lines_file text_file audited
with_lines since site lines_file text_file bytes (Ok verdict) whole h = (bytes, whole, h)
with_lines since site lines_file text_file bytes (Err (NoRecord stop)) whole h = absurd h
with_lines since site lines_file text_file bytes (Err (NoText stop)) whole h = (bytes, whole, h)
with_lines since site lines_file text_file bytes (Err NoMemory) whole h = (bytes, whole, h)

-- the bytes of a record are at hand, and a text was judged by them
pub lines_judged : (held : Option (List (List ℕ × List ℕ))) (lines_name text_name : List ℕ) (a b c : ℕ) → a ≤ b → (site : Site) (bytes read : List ℕ)
    (audited : Result Verdict AuditStop) → IfSome held (λ files. IsWhole (file_of lines_name files) bytes) → read ≡ bytes
    → IfSome held (λ files. AuditsText (Rose b c) site read (file_of text_name files) audited)
    → IfSome held (λ files. AuditsFiles (Rose a c) site (file_of lines_name files) (file_of text_name files) audited)
lines_judged None lines_name text_name a b c le site bytes read audited whole is judged = tt
lines_judged (Some files) lines_name text_name a b c le site bytes read audited whole is judged =
    with_lines (Rose a c) site (file_of lines_name files) (file_of text_name files) bytes audited whole
    (text_since (Rose b c) (Rose a c) (rose_since a b c le) site bytes (file_of text_name files) audited
    (subst (λ (them : List ℕ). AuditsText (Rose b c) site them (file_of text_name files) audited) is judged))

loads_since : (rose since : Type 0) (file : Option (List ℕ)) (site : Site) → Loads rose file (Ok site) → Loads since file (Ok site)
loads_since rose since None site h = absurd h
loads_since rose since (Some bytes) site h = h

-- a site was loaded, the files audited, and what came of it told
pub audits_told : (held : Option (List (List ℕ × List ℕ))) (site_name lines_name text_name : List ℕ) (a b c : ℕ) → a ≤ b → (site : Site)
    (old new : Option (List ℕ)) (outcome : Outcome) (audited : Result Verdict AuditStop)
    → IfSome held (λ files. Loads (Rose a b) (file_of site_name files) (Ok site))
    → IfSome held (λ files. AuditsFiles (Rose b c) site (file_of lines_name files) (file_of text_name files) audited)
    → Tells (audit_status audited) (audit_text lines_name text_name audited) old new outcome
    → IfSome held (λ files. AnswersBy (Rose a c) (file_of site_name files)
    (TellsAudit (Rose a c) lines_name text_name (file_of lines_name files) (file_of text_name files) old new outcome))
audits_told None site_name lines_name text_name a b c le site old new outcome audited loads audits tells = tt
audits_told (Some files) site_name lines_name text_name a b c le site old new outcome audited loads audits tells = record {
  result = Ok site;
  loads = loads_since (Rose a b) (Rose a c) (file_of site_name files) site loads;
  did = (
    audited,
    files_since (Rose b c) (Rose a c) (rose_since a b c le) site (file_of lines_name files) (file_of text_name files) audited audits,
    tells,
  );
}
