-- What an import answers, from what its parts answer.
use Rattle.std.proofs.Common.{◌≡◌, ℕ, ◌≤◌, List, Option, Some, None, Result, Ok, Err, subst}
use Rattle.std.specs.Prelude.{IfSome}
use Rattle.panel_edges.specs.Faults.{Rose}
use Rattle.panel_edges.specs.Shelves.{file_of}
use Rattle.panel_edges.proofs.Counting.{rose_since}
use Rattle.program_status.specs.declared.outcome.Outcome.{Outcome}
use Rattle.register_import.specs.declared.imported.Imported.{Imported}
use Rattle.service_keepers.specs.Tables.{Tables}
use Rattle.site_commands.specs.Commands.{AnswersBy, Tells}
use Rattle.site_commands.specs.Sites.{Loads}
use Rattle.site_types.specs.declared.site.Site.{Site}
use Rattle.import_command.specs.Endings.{import_status, import_text}
use Rattle.named_files.specs.Fetched.{IsWhole}
use Rattle.named_files.proofs.Sinces.{missing_since}
use Rattle.import_command.specs.Imports.{KeptTables, TakesFile, TakesRows, TellsImport}
use Rattle.import_command.specs.declared.import_stop.ImportStop.{ImportStop}
use Rattle.import_command.specs.declared.import_stop.ImportStop.TheVariants.{Missing, Refused}

-- bytes at hand are answered as an import answers them
pub takes_bytes : (held : Option (List (List ℕ × List ℕ))) (name : List ℕ) (rose : Type 0) (site : Site) (old new : Option Tables) (bytes read : List ℕ)
    (taken : Result Imported ImportStop) → IfSome held (λ files. IsWhole (file_of name files) bytes) → read ≡ bytes → TakesRows site read old new taken
    → IfSome held (λ files. TakesFile rose site (file_of name files) old new taken)
takes_bytes None name rose site old new bytes read taken whole is answers = tt
takes_bytes (Some files) name rose site old new bytes read (Ok imported) whole is answers =
    (bytes, whole, subst (λ (them : List ℕ). TakesRows site them old new (Ok imported)) is answers)
takes_bytes (Some files) name rose site old new bytes read (Err (Missing stop)) whole is answers = absurd answers
takes_bytes (Some files) name rose site old new bytes read (Err (Refused refusal)) whole is answers =
    (bytes, whole, subst (λ (them : List ℕ). TakesRows site them old new (Err (Refused refusal))) is answers)

-- a fault of the shelf may have come earlier too
takes_since : (rose since : Type 0) → (rose → since) → (site : Site) (file : Option (List ℕ)) (old new : Option Tables)
    (taken : Result Imported ImportStop) → TakesFile rose site file old new taken → TakesFile since site file old new taken
takes_since rose since f site file old new (Ok imported) h = h
takes_since rose since f site file old new (Err (Missing stop)) h = (missing_since rose since f file stop h.0, h.1)
takes_since rose since f site file old new (Err (Refused refusal)) h = h

loads_since : (rose since : Type 0) (file : Option (List ℕ)) (site : Site) → Loads rose file (Ok site) → Loads since file (Ok site)
loads_since rose since None site h = absurd h
loads_since rose since (Some bytes) site h = h

-- a site was loaded, the file taken, and what came of it told
pub imports_told : (held : Option (List (List ℕ × List ℕ))) (site_name name : List ℕ) (a b c : ℕ) → a ≤ b → (site : Site) (register : KeptTables)
    (old new : Option (List ℕ)) (outcome : Outcome) (taken : Result Imported ImportStop)
    → IfSome held (λ files. Loads (Rose a b) (file_of site_name files) (Ok site))
    → IfSome held (λ files. TakesFile (Rose b c) site (file_of name files) register.before register.after taken)
    → Tells (import_status taken) (import_text name taken) old new outcome
    → IfSome held (λ files. AnswersBy (Rose a c) (file_of site_name files)
    (TellsImport (Rose a c) name (file_of name files) register old new outcome))
imports_told None site_name name a b c le site register old new outcome taken loads takes tells = tt
imports_told (Some files) site_name name a b c le site register old new outcome taken loads takes tells = record {
  result = Ok site;
  loads = loads_since (Rose a b) (Rose a c) (file_of site_name files) site loads;
  did = (
    taken,
    takes_since (Rose b c) (Rose a c) (rose_since a b c le) site (file_of name files) register.before register.after taken takes,
    tells,
  );
}
