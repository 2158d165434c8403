-- What comes of a file that is imported, by the bytes under its name, and what the register keeps then.
use Rattle.std.specs.Prelude.{◌≡◌, ℕ, List, Option, Result, Ok, Err, IfSome}
use Rattle.panel_edges.specs.Faults.{Rose}
use Rattle.panel_edges.specs.Shelves.{file_of}
use Rattle.named_files.specs.Fetched.{HasNoBytes, IsWhole}
use Rattle.program_status.specs.declared.outcome.Outcome.{Outcome}
use Rattle.register_import.specs.Answers.{AnswersFile}
use Rattle.register_import.specs.declared.imported.Imported.{Imported}
use Rattle.service_keepers.specs.Tables.{Tables}
use Rattle.site_commands.specs.Commands.{AnswersBy, Tells}
use Rattle.site_commands.specs.Files.{Files}
use Rattle.site_commands.specs.Refusals.{stop_status, stop_text}
use Rattle.site_commands.specs.declared.stop.Stop.{Stop}
use Rattle.site_types.specs.declared.site.Site.{Site}
use Rattle.import_command.specs.Endings.{import_status, import_text}
use Rattle.import_command.specs.declared.import_stop.ImportStop.{ImportStop}
use Rattle.import_command.specs.declared.import_stop.ImportStop.TheVariants.{Missing, Refused}

-- what comes of rows that are at hand: they are answered as an import answers them
abbrev pub TakesRows : Site → List ℕ → Option Tables → Option Tables → Result Imported ImportStop → Type 0
TakesRows site bytes old new (Ok imported) = AnswersFile site bytes (Ok imported) old new
TakesRows site bytes old new (Err (Missing stop)) = ⊥
TakesRows site bytes old new (Err (Refused refusal)) = AnswersFile site bytes (Err refusal) old new

-- What comes of the file under a name, and what the register keeps before and after, where that is told: the rows are
-- answered as an import answers them; without bytes at hand the register stays as it is.
abbrev pub TakesFile : Type 0 → Site → Option (List ℕ) → Option Tables → Option Tables → Result Imported ImportStop
    → Type 0
TakesFile rose site file old new (Ok imported) =
    (bytes : List ℕ) × IsWhole file bytes × TakesRows site bytes old new (Ok imported)
TakesFile rose site file old new (Err (Missing stop)) = HasNoBytes rose file stop × (new ≡ old)
TakesFile rose site file old new (Err (Refused refusal)) =
    (bytes : List ℕ) × IsWhole file bytes × TakesRows site bytes old new (Err (Refused refusal))

-- the tables of a register before a call and after it, where its keeper tells them
pub record KeptTables : Type 0 where
  pub before : Option Tables
  pub after : Option Tables

abbrev pub kept_tables : {R : Type 0} → (R → Option Tables) → R → R → KeptTables
kept_tables tables keeper keeper' = record { before = tables keeper; after = tables keeper' }

-- With a site at hand the file of a name is taken, and what came of it is told. Without one the register stays as it
-- is, and why there is no site is told.
abbrev pub TellsImport : Type 0 → List ℕ → Option (List ℕ) → KeptTables → Option (List ℕ) → Option (List ℕ) → Outcome
    → Result Site Stop → Type 0
TellsImport rose name file register old new outcome (Ok site) =
    (taken : Result Imported ImportStop) × TakesFile rose site file register.before register.after taken
    × Tells (import_status taken) (import_text name taken) old new outcome
TellsImport rose name file register old new outcome (Err stop) =
    (register.after ≡ register.before) × Tells (stop_status stop) (stop_text stop) old new outcome

-- what an import of the file of a name answers, by the files where the shelf tells them
abbrev pub AnswersImport : Files → List ℕ → List ℕ → KeptTables → Option (List ℕ) → Option (List ℕ) → Outcome → Type 0
AnswersImport files site name register old new outcome = IfSome files.held (λ held.
    let rose = Rose files.faults_before files.faults_after in
    AnswersBy rose (file_of site held) (TellsImport rose name (file_of name held) register old new outcome))
