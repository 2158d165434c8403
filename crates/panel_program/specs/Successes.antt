-- When a run comes to its end.
use Rattle.std.specs.Prelude.{◌≡◌, ◌≢◌, ◌⊎◌, ℕ, List, Option, Some, map}
use Rattle.std.specs.Prelude.{String, string_bytes}
use Rattle.std.specs.declared.alloc.Global.{Global}
use Rattle.panel_edges.specs.Faults.{Rose}
use Rattle.panel_edges.specs.Shelves.{file_of}
use Rattle.site_types.specs.Digest.{digest_of}
use Rattle.site_types.specs.declared.site.Site.{Site}
use Rattle.site_document.specs.Documents.{IsRefusedBy}
use Rattle.site_document.specs.declared.refusal.SiteRefusal.{SiteRefusal}
use Rattle.site_document.specs.declared.refusal.SiteRefusal.TheVariants.{NoMemory as NoMemoryLeft}
use Rattle.site_config.specs.Sites.{IsSpelled, site_finding}
use Rattle.cause_effect.specs.Cycles.{HasNoCycle}
use Rattle.keep_batch.specs.MakingLaws.{is_wide}
use Rattle.retained_journal.specs.declared.open_refusal.OpenRefusal.{OpenRefusal}
use Rattle.retained_journal.specs.Opening.{Refuses, opened}
use Rattle.program_status.specs.declared.outcome.Outcome.{Outcome}
use Rattle.program_status.specs.declared.status.Status.TheVariants.{Done, NoMemory}
use Rattle.program_status.specs.Statuses.{BlamesDisk, BlamesWrites, IsSilentWithoutMemory, number_of}
use Rattle.panel_program.specs.declared.command.Command.TheVariants.{Run}
use Rattle.panel_program.specs.declared.run_end.RunEnd.TheVariants.{Ended}
use Rattle.panel_program.specs.Commands.{Answers, call_disks, site_word}
use Rattle.panel_program.specs.Endings.{end_of}
use Rattle.site_run.specs.PowerCuts.{JournalDisk, disk_of}
use Rattle.panel_program.specs.Runs.{Streams}
use Rattle.site_commands.specs.Files.{Files}
use Rattle.panel_program.specs.Words.{command_of}

-- no refusal of a site file but want of memory is called for, and in the site that it spells no marker depends on
-- itself
pub record IsSiteFile (file : List ℕ) : Type 0 where
  pub accepted : (refusal : SiteRefusal) → IsRefusedBy site_finding file refusal → refusal ≡ NoMemoryLeft
  pub free : (site : Site) → IsSpelled file site → HasNoCycle site

-- the bytes of a record end with the line `end` before one is refused
abbrev pub IsAcceptedRecord : List ℕ → List ℕ → Type 0
IsAcceptedRecord file record_bytes = (site : Site) → IsSpelled file site → end_of site record_bytes ≡ Ended

-- the file of a journal is empty, or that of the site
abbrev pub IsJournalFor : List ℕ → List ℕ → Type 0
IsJournalFor file journal = (site : Site) → IsSpelled file site → (refusal : OpenRefusal)
    → opened (is_wide site) (digest_of file) journal ≢ Refuses refusal

-- the words ask for a run of such a site over such a record with such a journal
pub record IsWellMade (words : List (String Global)) (files : Files) (disk : JournalDisk) (streams : Streams) :
    Type 0 where
  pub runs : command_of (map string_bytes words) ≡ Run
  pub held : List (List ℕ × List ℕ)
  pub shelf : files.held ≡ Some held
  pub file : List ℕ
  pub there : file_of (site_word (map string_bytes words)) held ≡ Some file
  pub site : IsSiteFile file
  pub bytes : List ℕ
  pub input : streams.input.before ≡ Some bytes
  pub accepted : IsAcceptedRecord file bytes
  pub journal : List ℕ
  pub seen : disk.seen ≡ Some journal
  pub usable : IsJournalFor file journal

-- no call of the outside failed, where these counts stood and stand for the output and the disk
pub record NothingFails (files : Files) (streams : Streams) (outcome : Outcome) (written written' stored stored' : ℕ) :
    Type 0 where
  pub shelf : Rose files.faults_before files.faults_after → ⊥
  pub input : Rose streams.input.faults_before streams.input.faults_after → ⊥
  pub output : Rose written written' → ⊥
  pub disk : Rose stored stored' → ⊥
  pub write : BlamesWrites outcome written written'
  pub store : BlamesDisk outcome stored stored'
  pub silent : IsSilentWithoutMemory outcome streams.old streams.new

-- where nothing fails a well made run ends with status 0, or memory ran out and nothing was written
abbrev pub SucceedsWellMade : List (String Global) → Files → JournalDisk → Streams → Outcome → Type 0
SucceedsWellMade words files disk streams outcome = (written written' stored stored' : ℕ)
    → IsWellMade words files disk streams → NothingFails files streams outcome written written' stored stored'
    → (outcome.status ≡ number_of Done) ⊎ ((outcome.status ≡ number_of NoMemory) × (streams.new ≡ streams.old))

abbrev pub WellMadeRunsSucceed : {D : Type 0} → (D → Option (List ℕ)) → (D → Type 0) → (D → List ℕ → Type 0)
    → (D → ℕ) → (D → ℕ → List ℕ → Type 0) → Type 0
WellMadeRunsSucceed {D} seen honest images moment left_since = (words : List (String Global)) (files : Files)
    (old new other other' : D) (streams : Streams) (outcome : Outcome)
    → Answers words files (call_disks seen honest images moment left_since old new other other') streams outcome
    → SucceedsWellMade words files (disk_of seen honest images moment left_since old new) streams outcome
