-- What serving a site comes to.
use Rattle.std.specs.Prelude.{◌≡◌, ◌⊎◌, ◌<◌, ℕ, false, true, List, [], ◌∷◌, ◌++◌, Option, Result}
use Rattle.std.specs.Prelude.{Ok, Err, length}
use Rattle.desk_doors.specs.Passing.{DoorSides}
use Rattle.desk_register.specs.Replies.{KeeperSides}
use Rattle.journal_refusals.specs.JournalTexts.{journal_status, journal_text}
use Rattle.keep_batch.specs.MakingLaws.{is_wide}
use Rattle.panel_desk.specs.Serving.{IsServed}
use Rattle.panel_edges.specs.Contents.{Grows, GrowsByFront}
use Rattle.panel_rules.specs.Moments.{TickBlock}
use Rattle.program_status.specs.Sayings.{Says}
use Rattle.program_status.specs.Statuses.{number_of}
use Rattle.program_status.specs.declared.outcome.Outcome.{Outcome}
use Rattle.program_status.specs.declared.status.Status.TheVariants.{Done, DoorFault, WriteFault}
use Rattle.retained_journal.specs.declared.journal.Journal.{Journal}
use Rattle.retained_journal.specs.Outcomes.{IsRefusalOf, UnlessEmpty}
use Rattle.retained_journal.specs.declared.open_refusal.OpenRefusal.{OpenRefusal}
use Rattle.run_text.specs.Failures.{failures}
use Rattle.run_text.specs.RunPromises.{KeepsPromises}
use Rattle.run_text.specs.SoFar.{opening_text}
use Rattle.serve_command.specs.Doors.{GivesAndTakes, ServedConn, has_stop, sides_of_conn}
use Rattle.serving_ends.specs.Ends.{door_line, served_line}
use Rattle.service_keepers.specs.Tables.{Tables}
use Rattle.site_commands.specs.Commands.{AnswersOver, RanNothing, Tells}
use Rattle.site_commands.specs.Files.{Files}
use Rattle.site_commands.specs.Refusals.{stop_status, stop_text}
use Rattle.site_commands.specs.declared.stop.Stop.{Stop}
use Rattle.site_run.specs.Journals.{KeepsFor}
use Rattle.site_run.specs.Outside.{DiskKind, Stored}
use Rattle.site_run.specs.PowerCuts.{IsJournalOf, JournalDisk, LeavesAcknowledged}
use Rattle.site_types.specs.declared.retained.Retained.{Retained}
use Rattle.site_types.specs.declared.site.Site.{Site}

-- ---- one connection after another

-- where a site stands between two connections: the ticks that were run, the newest first, the journal on its disk, and
-- what the keeper of the register tells
pub record Between (kind : DiskKind) : Type 0 where
  pub ticks : List TickBlock
  pub stored : Stored kind
  pub tables : Option Tables
  pub faults : ℕ

abbrev pub keeper_between : {kind : DiskKind} → Between kind → Between kind → KeeperSides
keeper_between old new =
    record { before = old.tables; after = new.tables; faults_before = old.faults; faults_after = new.faults }

module _ (site : Site) (kept : Retained) where
  -- one connection was served between these
  abbrev pub ServesConn : {kind : DiskKind} → Between kind → ServedConn → Between kind → Type 0
  ServesConn old conn new =
      IsServed site kept old.ticks (sides_of_conn conn) (keeper_between old new) old.stored new.stored conn.served
      new.ticks

  -- these connections were served one after another, none of them behind a stop
  pub data ServesEach {kind : DiskKind} (first : Between kind) : List ServedConn → Between kind → Type 0 where
    no_conn : ServesEach first [] first
    and_conn : (conns : List ServedConn) (conn : ServedConn) (last next : Between kind) → ServesEach first conns last
        → has_stop conns ≡ false → ServesConn last conn next → ServesEach first (conns ++ conn ∷ []) next

-- serving ended by itself: so many connections were served, or the last was a stop
pub record EndsServing (count : ℕ) (conns : List ServedConn) (old new : Option (List ℕ)) (outcome : Outcome) : Type 0
  where
    pub enough : (length conns ≡ count) ⊎ (has_stop conns ≡ true)
    pub says : Says Done (served_line (length conns)) old new outcome.status

-- serving ended as the door failed: fewer connections were served than were asked for, and none was a stop
pub record EndsAtDoor (count : ℕ) (conns : List ServedConn) (old new : Option (List ℕ)) (outcome : Outcome) : Type 0
  where
    pub fewer : length conns < count
    pub no_stop : has_stop conns ≡ false
    pub says : Says DoorFault door_line old new outcome.status

-- ---- the whole of it

module _ (site : Site) (kept : Retained) (digest : List ℕ) (disk : JournalDisk) (door : DoorSides) (keeper :
    KeeperSides) (count : ℕ) (old new : Option (List ℕ)) (outcome : Outcome) where
  -- nothing of the outside but the journal was touched
  pub record LeavesDoor : Type 0 where
    pub gave : GivesAndTakes [] door
    pub tables : keeper.after ≡ keeper.before
    pub faults : keeper.faults_after ≡ keeper.faults_before
    pub cut : LeavesAcknowledged site kept digest disk []

  -- the first write failed: a front of what is told before the first tick was written
  pub record StopsAtOpening : Type 0 where
    pub alone : LeavesDoor
    pub status : outcome.status ≡ number_of WriteFault
    pub ticks : outcome.ticks ≡ 0
    pub failures_are : outcome.store_failures ≡ 0
    pub broke : GrowsByFront old new (opening_text site kept)

  -- These connections were served, each as the door gave it, and handed back in that order. What is due is shown at the
  -- end of each tick that was run and nothing without its cause, and a power cut leaves what was acknowledged.
  pub record ServesAll : Type 0 where
    pub conns : List ServedConn
    pub first : Between disk.kind
    pub last : Between disk.kind
    pub begins : first.ticks ≡ []
    pub keeper_at_first : (first.tables ≡ keeper.before) × (first.faults ≡ keeper.faults_before)
    pub keeper_at_last : (last.tables ≡ keeper.after) × (last.faults ≡ keeper.faults_after)
    pub disk_at_last : last.stored.disk ≡ disk.now
    pub each : ServesEach site kept first conns last
    pub gave : GivesAndTakes conns door
    pub promises : KeepsPromises site kept last.ticks
    pub cut : LeavesAcknowledged site kept digest disk last.ticks
    pub ticks : outcome.ticks ≡ length last.ticks
    pub failures_are : outcome.store_failures ≡ failures last.ticks
    pub mid : Option (List ℕ)
    pub told : Grows old mid (opening_text site kept)
    pub ends : EndsServing count conns mid new outcome ⊎ EndsAtDoor count conns mid new outcome

  -- serving with what the journal kept: memory ran out before anything was written, the first write failed, or
  -- connections were served
  abbrev pub ServesOn : Type 0
  ServesOn = (RanNothing old new outcome × LeavesDoor) ⊎ StopsAtOpening ⊎ ServesAll

-- The journal can't be used. Its file stays as it is, unless it was empty, and the door isn't opened.
pub record StopsAtJournal (site : Site) (digest : List ℕ) (disk : JournalDisk) (door : DoorSides) (keeper : KeeperSides)
    (old new : Option (List ℕ)) (outcome : Outcome) : Type 0 where
  pub refusal : OpenRefusal
  pub cause : IsRefusalOf (is_wide site) digest disk.seen refusal
  pub spared : UnlessEmpty disk.seen (disk.told ≡ disk.seen)
  pub gave : GivesAndTakes [] door
  pub tables : keeper.after ≡ keeper.before
  pub says : Says (journal_status refusal) (journal_text refusal) old new outcome.status
  pub ticks : outcome.ticks ≡ 0
  pub failures_are : outcome.store_failures ≡ 0

-- the journal kept this, and serving went on from it
pub record ServesKept (site : Site) (digest : List ℕ) (disk : JournalDisk) (door : DoorSides) (keeper : KeeperSides)
    (count : ℕ) (old new : Option (List ℕ)) (outcome : Outcome) : Type 0 where
  pub kept : Retained
  pub keeps : KeepsFor site digest disk.seen kept
  pub serves : ServesOn site kept digest disk door keeper count old new outcome

-- serving with a journal, whatever its disk told when it was opened
abbrev pub ServesFrom : Site → Journal → (Option (List ℕ) → JournalDisk) → DoorSides → KeeperSides → ℕ
    → Option (List ℕ) → Option (List ℕ) → Outcome → Type 0
ServesFrom site journal disk door keeper count old new outcome = (digest : List ℕ) (seen : Option (List ℕ))
    → IsJournalOf digest seen journal
    → ServesOn site journal.kept digest (disk seen) door keeper count old new outcome

-- what serving a site comes to, by what its disk holds
abbrev pub ServesOver : Site → List ℕ → JournalDisk → DoorSides → KeeperSides → ℕ → Option (List ℕ) → Option (List ℕ)
    → Outcome → Type 0
ServesOver site digest disk door keeper count old new outcome =
    StopsAtJournal site digest disk door keeper old new outcome
    ⊎ ServesKept site digest disk door keeper count old new outcome

-- what serving a site comes to, by what its disk holds, or that there is no site, and why is told
abbrev pub ServesSite : List ℕ → JournalDisk → DoorSides → KeeperSides → ℕ → Option (List ℕ) → Option (List ℕ)
    → Outcome → Result Site Stop → Type 0
ServesSite digest disk door keeper count old new outcome (Ok site) =
    ServesOver site digest disk door keeper count old new outcome
ServesSite digest disk door keeper count old new outcome (Err stop) =
    Tells (stop_status stop) (stop_text stop) old new outcome

-- what is answered by the file under the site's name
abbrev pub AnswersServe : List ℕ → Files → JournalDisk → DoorSides → KeeperSides → ℕ → Option (List ℕ)
    → Option (List ℕ) → Outcome → Type 0
AnswersServe name files disk door keeper count old new outcome =
    AnswersOver files name (λ digest. ServesSite digest disk door keeper count old new outcome)
