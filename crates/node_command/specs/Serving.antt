-- What serving a panel of a site by itself comes to.
use Rattle.std.specs.Prelude.{◌≡◌, ◌⊎◌, ◌<◌, ◌≤◌, ℕ, List, [], length, Option, Result, Ok, Err}
use Rattle.desk_doors.specs.Doors.{ToldConn}
use Rattle.desk_doors.specs.Passing.{DoorSides, PassesAll}
use Rattle.journal_refusals.specs.JournalTexts.{journal_status, journal_text}
use Rattle.keep_batch.specs.MakingLaws.{is_wide}
use Rattle.node_answers.specs.Exchanges.{ExchangedConn, ExchangesEach}
use Rattle.node_rules.specs.Histories.{NodeMoment, befallen}
use Rattle.panel_rules.specs.Moments.{TickBlock, moments}
use Rattle.program_status.specs.Sayings.{Says}
use Rattle.program_status.specs.declared.outcome.Outcome.{Outcome}
use Rattle.program_status.specs.declared.status.Status.TheVariants.{Done, DoorFault, Usage}
use Rattle.program_usage.specs.Usage.{usage_line}
use Rattle.retained_journal.specs.declared.journal.Journal.{Journal}
use Rattle.retained_journal.specs.declared.open_refusal.OpenRefusal.{OpenRefusal}
use Rattle.retained_journal.specs.Outcomes.{IsRefusalOf, UnlessEmpty}
use Rattle.run_text.specs.Failures.{failures}
use Rattle.serving_ends.specs.Ends.{door_line, served_line}
use Rattle.site_commands.specs.Commands.{AnswersOver, RanNothing, Tells}
use Rattle.site_commands.specs.Files.{Files}
use Rattle.site_commands.specs.Refusals.{stop_status, stop_text}
use Rattle.site_commands.specs.declared.stop.Stop.{Stop}
use Rattle.site_run.specs.Journals.{KeepsFor}
use Rattle.site_run.specs.PowerCuts.{IsJournalOf, JournalDisk, LeavesAcknowledged}
use Rattle.site_types.specs.declared.retained.Retained.{Retained}
use Rattle.site_types.specs.declared.site.Site.{Site}

-- a door gave these connections and took each back before it gave the next
abbrev pub ExchangesAll : List ExchangedConn → DoorSides → Type 0
ExchangesAll = PassesAll (λ (conn : ExchangedConn). conn.given) (λ (conn : ExchangedConn). conn.back)

-- so many connections were served as were asked for, and how many is told
pub record ServesEnough (count : ℕ) (conns : List ExchangedConn) (old new : Option (List ℕ)) (outcome : Outcome) :
    Type 0 where
  pub enough : length conns ≡ count
  pub says : Says Done (served_line count) old new outcome.status

-- the door failed before as many connections were served as were asked for, and that it failed is told
pub record ServesTooFew (count : ℕ) (conns : List ExchangedConn) (old new : Option (List ℕ)) (outcome : Outcome) :
    Type 0 where
  pub fewer : length conns < count
  pub says : Says DoorFault door_line old new outcome.status

module _ (site : Site) (digest : List ℕ) (panel : ℕ) (kept : Retained) (disk : JournalDisk) (door : DoorSides) (count :
    ℕ) (old new : Option (List ℕ)) (outcome : Outcome) where
  -- memory ran out before the door was started
  pub record LacksRoom : Type 0 where
    pub ran : RanNothing old new outcome
    pub gave : ExchangesAll [] door
    pub cut : LeavesAcknowledged site kept digest disk []

  -- These connections came, each as the door gave it, and were handed back in that order; each was answered by what had
  -- come before it. What befell the panel since is this history, in which these ticks were run, and a power cut leaves
  -- what was acknowledged in them.
  pub record ServesPanel : Type 0 where
    pub conns : List ExchangedConn
    pub history : List NodeMoment
    pub ticks : List TickBlock
    pub each : ExchangesEach site digest panel kept conns history
    pub befell : befallen history ≡ moments ticks
    pub gave : ExchangesAll conns door
    pub cut : LeavesAcknowledged site kept digest disk ticks
    pub ticks_are : outcome.ticks ≡ length ticks
    pub failures_are : outcome.store_failures ≡ failures ticks
    pub ends : ServesEnough count conns old new outcome ⊎ ServesTooFew count conns old new outcome

  -- serving a panel with what its journal kept
  abbrev pub ServesPanelOn : Type 0
  ServesPanelOn = LacksRoom ⊎ ServesPanel

-- the site has no panel of this number: the usage is told, the journal isn't opened, and the door isn't started
pub record LacksPanel (disk : JournalDisk) (door : DoorSides) (old new : Option (List ℕ)) (outcome : Outcome) : Type 0
  where
    pub tells : Tells Usage usage_line old new outcome
    pub gave : ExchangesAll [] door
    pub untouched : disk.told ≡ disk.seen

-- the journal can't be used: its file stays as it is, unless it was empty, and the door isn't started
pub record LacksJournal (site : Site) (digest : List ℕ) (disk : JournalDisk) (door : DoorSides) (old new :
    Option (List ℕ)) (outcome : Outcome) : Type 0 where
  pub refusal : OpenRefusal
  pub cause : IsRefusalOf (is_wide site) digest disk.seen refusal
  pub spared : UnlessEmpty disk.seen (disk.told ≡ disk.seen)
  pub gave : ExchangesAll [] door
  pub tells : Tells (journal_status refusal) (journal_text refusal) old new outcome

-- the journal kept this, and the panel was served from it on
pub record ServesPanelKept (site : Site) (digest : List ℕ) (panel : ℕ) (disk : JournalDisk) (door : DoorSides) (count :
    ℕ) (old new : Option (List ℕ)) (outcome : Outcome) : Type 0 where
  pub kept : Retained
  pub keeps : KeepsFor site digest disk.seen kept
  pub serves : ServesPanelOn site digest panel kept disk door count old new outcome

-- serving with a journal, whatever its disk told when it was opened
abbrev pub ServesPanelFrom : Site → List ℕ → ℕ → Journal → (Option (List ℕ) → JournalDisk) → DoorSides → ℕ
    → Option (List ℕ) → Option (List ℕ) → Outcome → Type 0
ServesPanelFrom site digest panel journal disk door count old new outcome =
    (seen : Option (List ℕ)) → IsJournalOf digest seen journal
    → ServesPanelOn site digest panel journal.kept (disk seen) door count old new outcome

-- what serving a panel of a site comes to, by what its disk holds
abbrev pub ServesPanelOver : Site → List ℕ → ℕ → JournalDisk → DoorSides → ℕ → Option (List ℕ) → Option (List ℕ)
    → Outcome → Type 0
ServesPanelOver site digest panel disk door count old new outcome =
    LacksJournal site digest disk door old new outcome
    ⊎ ServesPanelKept site digest panel disk door count old new outcome

-- what serving a panel of a site comes to, where the site has the panel; where it has not, the usage is told
pub record ServesPanelIf (site : Site) (digest : List ℕ) (panel : ℕ) (disk : JournalDisk) (door : DoorSides) (count : ℕ)
    (old new : Option (List ℕ)) (outcome : Outcome) : Type 0 where
  pub within : panel ≤ site.panels → ServesPanelOver site digest panel disk door count old new outcome
  pub above : site.panels < panel → LacksPanel disk door old new outcome

-- what serving a panel of a site comes to, where the site has the panel; where it has not, the usage is told; where
-- there is no site, why is told
abbrev pub ServesPanelOf : List ℕ → ℕ → JournalDisk → DoorSides → ℕ → Option (List ℕ) → Option (List ℕ) → Outcome
    → Result Site Stop → Type 0
ServesPanelOf digest panel disk door count old new outcome (Ok site) =
    ServesPanelIf site digest panel disk door count old new outcome
ServesPanelOf digest panel disk door count old new outcome (Err stop) =
    Tells (stop_status stop) (stop_text stop) old new outcome

-- what is answered by the file under the site's name
abbrev pub AnswersNode : List ℕ → ℕ → Files → JournalDisk → DoorSides → ℕ → Option (List ℕ) → Option (List ℕ)
    → Outcome → Type 0
AnswersNode name panel files disk door count old new outcome =
    AnswersOver files name (λ digest. ServesPanelOf digest panel disk door count old new outcome)
