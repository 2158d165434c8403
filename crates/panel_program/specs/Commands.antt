-- What each command answers.
use Rattle.std.specs.Prelude.{◌≡◌, ◌≢◌, ◌⊎◌, ℕ, List, [], ◌∷◌, Option, Result, Ok, Err, map, ⊤}
use Rattle.std.specs.Prelude.{String, string_bytes}
use Rattle.std.specs.declared.alloc.Global.{Global}
use Rattle.site_types.specs.declared.site.Site.{Site}
use Rattle.drill_site.specs.Files.{drill_file}
use Rattle.journal_move.specs.Disks.{Disks, disks_of}
use Rattle.journal_move.specs.Moves.{AnswersMove}
use Rattle.audit_command.specs.Audits.{AnswersAudit}
use Rattle.import_command.specs.Imports.{AnswersImport, KeptTables}
use Rattle.node_command.specs.Serving.{AnswersNode}
use Rattle.panel_drill.specs.Drills.{drill_line}
use Rattle.panel_program.specs.declared.command.Command.{Command}
use Rattle.panel_program.specs.declared.command.Command.TheVariants.{Usage, Check, Run, Matrix, Drill, Move}
use Rattle.panel_program.specs.declared.command.Command.TheVariants.{Audit, Import, Serve, Node}
use Rattle.program_status.specs.declared.outcome.Outcome.{Outcome}
use Rattle.program_status.specs.declared.status.Status.TheVariants as exit
use Rattle.site_commands.specs.declared.stop.Stop.{Stop}
use Rattle.program_usage.specs.Usage.{usage_line}
use Rattle.site_commands.specs.Refusals.{stop_status, stop_text}
use Rattle.site_run.specs.PowerCuts.{JournalDisk, disk_of}
use Rattle.panel_program.specs.Runs.{RanOver, Streams}
use Rattle.desk_register.specs.Replies.{KeeperSides}
use Rattle.desk_doors.specs.Passing.{DoorSides}
use Rattle.serve_command.specs.Serving.{AnswersServe}
use Rattle.site_commands.specs.Commands.{AnswersOver, Checks, Draws, RanNothing, Tells}
use Rattle.site_commands.specs.Files.{Files}
use Rattle.site_commands.specs.Sites.{IsAtHand}
use Rattle.panel_edges.specs.Faults.{Rose}
use Rattle.program_status.specs.Statuses.{number_of}
use Rattle.program_status.specs.Sayings.{Says}
use Rattle.panel_program.specs.Words.{command_of}

-- the word that names the site
abbrev pub site_word : List (List ℕ) → List ℕ
site_word (word ∷ site ∷ rest) = site
site_word _ = []

-- the word that names the site to which another is moved
abbrev pub new_site_word : List (List ℕ) → List ℕ
new_site_word (word ∷ old ∷ new ∷ rest) = new
new_site_word _ = []

-- the word that names the file whose rows are imported, or the record of an audit
abbrev pub file_word : List (List ℕ) → List ℕ
file_word (word ∷ site ∷ file ∷ rest) = file
file_word _ = []

-- the word that names the text that is audited
abbrev pub text_word : List (List ℕ) → List ℕ
text_word (word ∷ site ∷ lines ∷ text ∷ rest) = text
text_word _ = []

-- one text was written, after so many ticks
pub record TellsAfter (ticks : ℕ) (text : List ℕ) (old new : Option (List ℕ)) (outcome : Outcome) : Type 0 where
  pub says : Says exit.Done text old new outcome.status
  pub ticks_run : outcome.ticks ≡ ticks
  pub failures : outcome.store_failures ≡ 0

-- a run runs the site over the record where the input tells its bytes, or tells why there is no site
abbrev pub Runs : List ℕ → JournalDisk → Streams → Outcome → Result Site Stop → Type 0
Runs digest disk streams outcome (Ok site) = RanOver site digest disk streams outcome
Runs digest disk streams outcome (Err stop) =
    Tells (stop_status stop) (stop_text stop) streams.old streams.new outcome

abbrev pub AnswersRun : List ℕ → Files → JournalDisk → Streams → Outcome → Type 0
AnswersRun name files disk streams outcome =
    AnswersOver files name (λ digest. Runs digest disk streams outcome)

-- the line of a drill: that of its site and seed after its ticks
abbrev pub IsDrillLine : ℕ → ℕ → List ℕ → Type 0
IsDrillLine seed ticks line = (site : Site) × IsAtHand drill_file site × (line ≡ drill_line site seed ticks)

-- a drill tells the line of its site and seed after its ticks, or memory ran out
abbrev pub Drills : ℕ → ℕ → Option (List ℕ) → Option (List ℕ) → Outcome → Type 0
Drills seed ticks old new outcome =
    RanNothing old new outcome
    ⊎ ((site : Site) × IsAtHand drill_file site × TellsAfter ticks (drill_line site seed ticks) old new outcome)

-- what the words of a call name: the one site, or the old one and the new one, and the record and text of an audit
pub record CallNames : Type 0 where
  pub site : List ℕ
  pub new_site : List ℕ
  pub lines : List ℕ
  pub text : List ℕ

abbrev pub names_of : List (List ℕ) → CallNames
names_of words = record {
  site = site_word words;
  new_site = new_site_word words;
  lines = file_word words;
  text = text_word words;
}

-- the disk of the journal, and both disks of a move
pub record CallDisks : Type 1 where
  pub journal : JournalDisk
  pub both : Disks

module _ {D : Type 0} where
  abbrev pub call_disks : (D → Option (List ℕ)) → (D → Type 0) → (D → List ℕ → Type 0) → (D → ℕ)
      → (D → ℕ → List ℕ → Type 0) → D → D → D → D → CallDisks
  call_disks seen honest images moment left_since old new target_old target_new =
      record {
        journal = disk_of seen honest images moment left_since old new;
        both = disks_of seen honest images old new target_old target_new;
      }

-- what a command answers: on its words alone, or by the files where the shelf tells them, an audit by all three that
-- it names; a run by the bytes of the record, where the input tells them, and by what the journal's disk holds; a move
-- by what its two disks hold; an import and serving, which see a register or a door, as `AnswersIfImport`,
-- `AnswersIfServing` and `AnswersIfNode` say
abbrev pub AnswersCommand : Command → CallNames → Files → CallDisks → Streams → Outcome → Type 0
AnswersCommand Usage names files disks streams outcome = Tells exit.Usage usage_line streams.old streams.new outcome
AnswersCommand Check names files disks streams outcome =
    AnswersOver files names.site (λ digest. Checks streams.old streams.new outcome)
AnswersCommand Matrix names files disks streams outcome =
    AnswersOver files names.site (λ digest. Draws streams.old streams.new outcome)
AnswersCommand Run names files disks streams outcome = AnswersRun names.site files disks.journal streams outcome
AnswersCommand (Drill seed ticks) names files disks streams outcome =
    Drills seed ticks streams.old streams.new outcome
AnswersCommand Move names files disks streams outcome =
    AnswersMove names.site names.new_site files disks.both streams.old streams.new outcome
AnswersCommand Audit names files disks streams outcome =
    AnswersAudit files names.site names.lines names.text streams.old streams.new outcome
AnswersCommand Import names files disks streams outcome = ⊤
AnswersCommand (Serve port count) names files disks streams outcome = ⊤
AnswersCommand (Node panel port count) names files disks streams outcome = ⊤

-- what a call with these words answers
abbrev pub Answers : List (String Global) → Files → CallDisks → Streams → Outcome → Type 0
Answers words = AnswersCommand (command_of (map string_bytes words)) (names_of (map string_bytes words))

-- a command that reads no record leaves its input unread
abbrev pub RunsNothing : List (String Global) → Type 0
RunsNothing words = command_of (map string_bytes words) ≢ Run

-- a command that moves nothing leaves the second disk alone
abbrev pub MovesNothing : List (String Global) → Type 0
MovesNothing words = command_of (map string_bytes words) ≢ Move

abbrev pub IsImport : List (String Global) → Type 0
IsImport words = command_of (map string_bytes words) ≡ Import

-- what an import with these words answers, by the tables of the register, where the keeper tells them, and by what was
-- written before and after it
abbrev pub AnswersIfImport : List (String Global) → Files → KeptTables → Option (List ℕ) → Option (List ℕ) → Outcome
    → Type 0
AnswersIfImport words files register old new outcome = IsImport words
    → AnswersImport files (site_word (map string_bytes words)) (file_word (map string_bytes words)) register old new
    outcome

-- a command that serves no site
abbrev pub ServesNoSite : List (String Global) → Type 0
ServesNoSite words = (port count : ℕ) → command_of (map string_bytes words) ≢ Serve port count

-- a command that serves no panel by itself
abbrev pub ServesNoPanel : List (String Global) → Type 0
ServesNoPanel words = (panel port count : ℕ) → command_of (map string_bytes words) ≢ Node panel port count

-- a command that serves nothing leaves the door alone
abbrev pub ServesNothing : List (String Global) → Type 0
ServesNothing words = ServesNoSite words × ServesNoPanel words

-- what serving with these words answers, by what the journal's disk holds, the connections that the door gives and the
-- tables of the register, where they are told
abbrev pub AnswersIfServing : List (String Global) → Files → JournalDisk → DoorSides → KeeperSides → Option (List ℕ)
    → Option (List ℕ) → Outcome → Type 0
AnswersIfServing words files disk door keeper old new outcome =
    (port count : ℕ) → command_of (map string_bytes words) ≡ Serve port count
    → AnswersServe (site_word (map string_bytes words)) files disk door keeper count old new outcome

-- serving ends with a door fault only where the door's count of faults rose
abbrev pub BlamesDoorIfServing : List (String Global) → Outcome → ℕ → ℕ → Type 0
BlamesDoorIfServing words outcome before after =
    (port count : ℕ) → command_of (map string_bytes words) ≡ Serve port count
    → outcome.status ≡ number_of exit.DoorFault → Rose before after

-- what serving a panel by itself with these words answers, by what the journal's disk holds and the connections that
-- the door gives, where they are told
abbrev pub AnswersIfNode : List (String Global) → Files → JournalDisk → DoorSides → Option (List ℕ) → Option (List ℕ)
    → Outcome → Type 0
AnswersIfNode words files disk door old new outcome =
    (panel port count : ℕ) → command_of (map string_bytes words) ≡ Node panel port count
    → AnswersNode (site_word (map string_bytes words)) panel files disk door count old new outcome

-- serving a panel by itself ends with a door fault only where the door's count of faults rose
abbrev pub BlamesDoorIfNode : List (String Global) → Outcome → ℕ → ℕ → Type 0
BlamesDoorIfNode words outcome before after =
    (panel port count : ℕ) → command_of (map string_bytes words) ≡ Node panel port count
    → outcome.status ≡ number_of exit.DoorFault → Rose before after

-- where memory ran out this holds of serving a panel by itself
abbrev pub WithoutMemoryIfNode : List (String Global) → Outcome → Type 0 → Type 0
WithoutMemoryIfNode words outcome Holds =
    (panel port count : ℕ) → command_of (map string_bytes words) ≡ Node panel port count
    → outcome.status ≡ number_of exit.NoMemory → Holds

-- a command that neither imports nor serves a site leaves the keeper alone
abbrev pub AsksNothing : List (String Global) → Type 0
AsksNothing words = (command_of (map string_bytes words) ≢ Import) × ServesNoSite words

-- a command that neither runs nor serves writes to the first disk only where it was empty
abbrev pub WorksNothing : List (String Global) → Type 0
WorksNothing words = RunsNothing words × ServesNothing words

-- a command that neither runs, serves nor moves leaves the first disk alone
abbrev pub KeepsNothing : List (String Global) → Type 0
KeepsNothing words = WorksNothing words × MovesNothing words
