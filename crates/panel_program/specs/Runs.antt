-- What a run over the bytes of a record comes to.
use Rattle.std.specs.Prelude.{◌≡◌, ◌⊎◌, ◌≤◌, ℕ, List, [], ◌∷◌, ◌++◌, length, Option, Some, IfSome}
use Rattle.std.specs.Prelude.{Result, Ok, Err}
use Rattle.panel_edges.specs.Contents.{Grows, GrowsByFront}
use Rattle.panel_edges.specs.Faults.{Rose}
use Rattle.panel_edges.specs.Limits.{most_record_bytes}
use Rattle.panel_edges.specs.declared.failed.Failed.{Failed}
use Rattle.site_types.specs.declared.retained.Retained.{Retained}
use Rattle.site_types.specs.declared.site.Site.{Site}
use Rattle.face_text.specs.Timelines.{IsInForm, text_of}
use Rattle.panel_rules.specs.Moments.{TickBlock, moments}
use Rattle.panel_rules.specs.Timeline.{timeline_of}
use Rattle.run_text.specs.RunPromises.{KeepsPromises}
use Rattle.run_text.specs.TextLaws.{whole_text}
use Rattle.retained_journal.specs.declared.journal.Journal.{Journal}
use Rattle.retained_journal.specs.declared.open_refusal.OpenRefusal.{OpenRefusal}
use Rattle.retained_journal.specs.Outcomes.{IsRefusalOf, UnlessEmpty}
use Rattle.keep_batch.specs.MakingLaws.{is_wide}
use Rattle.program_status.specs.declared.outcome.Outcome.{Outcome}
use Rattle.site_run.specs.declared.run.Run.{Run}
use Rattle.panel_program.specs.declared.run_end.RunEnd.{RunEnd}
use Rattle.panel_program.specs.declared.run_end.RunEnd.TheVariants.{ReadFault}
use Rattle.program_status.specs.declared.status.Status.TheVariants.{WriteFault}
use Rattle.program_status.specs.Statuses.{number_of}
use Rattle.panel_program.specs.Endings.{end_of, within_limit, status_of, last_line}
use Rattle.journal_refusals.specs.JournalTexts.{journal_status, journal_text}
use Rattle.site_run.specs.Journals.{KeepsFor}
use Rattle.site_run.specs.Outside.{DiskKind, Disks, Outside, outside_after, outside_before}
use Rattle.site_run.specs.PowerCuts.{IsJournalOf, JournalDisk, LeavesAcknowledged}
use Rattle.site_run.specs.Records.{at_beginning, ticks_run}
use Rattle.panel_program.specs.Ahead.{AreTicksOf, EndWithClosing, ReadsAhead}
use Rattle.site_run.specs.Writings.{Breaks}
use Rattle.site_run.specs.Stands.{HasRun, Stands, Writes, WritesPart}
use Rattle.panel_program.specs.Taking.{IsGoing}
use Rattle.run_text.specs.SoFar.{opening_text, text_so_far}
use Rattle.site_commands.specs.Commands.{RanNothing}
use Rattle.run_text.specs.Failures.{failures}
use Rattle.program_status.specs.Sayings.{Says}

-- the end that the bytes of a record have, with the ticks that all its bytes run; a read failed before any
-- end came
abbrev pub EndsRun : Site → List ℕ → List ℕ → RunEnd → Type 0
EndsRun site bytes consumed ReadFault = IsGoing site consumed
EndsRun site bytes consumed end =
    (end ≡ end_of site bytes) × (ticks_run site consumed ≡ ticks_run site (within_limit bytes))

-- what an input tells before a run and after it: the bytes that are left, where they are told, and how many of its
-- reads have failed
pub record Input : Type 0 where
  pub before : Option (List ℕ)
  pub after : Option (List ℕ)
  pub faults_before : ℕ
  pub faults_after : ℕ

abbrev pub input_of : {S : Type 0} → (S → Option (List ℕ)) → (S → ℕ) → S → S → Input
input_of left faults old new =
    record { before = left old; after = left new; faults_before = faults old; faults_after = faults new }

-- the input, and what was written before a run and after it
pub record Streams : Type 0 where
  pub input : Input
  pub old : Option (List ℕ)
  pub new : Option (List ℕ)

abbrev pub streams_of : {S K : Type 0} → (S → Option (List ℕ)) → (S → ℕ) → (K → Option (List ℕ)) → S → S → K → K
    → Streams
streams_of left faults written before after old new =
    record { input = input_of left faults before after; old = written old; new = written new }

module _ {kind : DiskKind} (site : Site) (kept : Retained) (bytes : List ℕ) (left : Option (List ℕ)) (old new :
    Outside kind) where
  -- these bytes were read, and ended so; where a read failed all that was read was taken
  pub record ReadsTo (run : Run) (end : RunEnd) : Type 0 where
    pub consumed : List ℕ
    pub rest : List ℕ
    pub ticks : List TickBlock
    pub whole : bytes ≡ consumed ++ rest
    pub ahead : ReadsAhead rest left
    pub unread : end ≡ ReadFault → left ≡ Some rest
    pub ended : EndsRun site bytes consumed end
    pub of : AreTicksOf site consumed ticks
    pub ran : HasRun site kept ticks run
    pub wrote : Writes site kept old new [] ticks

  -- these bytes were read when a write failed
  pub record ReadsUntil (run : Run) : Type 0 where
    pub consumed : List ℕ
    pub rest : List ℕ
    pub ticks : List TickBlock
    pub whole : bytes ≡ consumed ++ rest
    pub ahead : ReadsAhead rest left
    pub few : length consumed ≤ most_record_bytes
    pub of : AreTicksOf site consumed ticks
    pub ran : HasRun site kept ticks run
    pub broke : WritesPart site kept old new [] ticks
    pub closed : EndWithClosing site consumed broke.whole

  abbrev pub ReadsRecord : Run → Result RunEnd Failed → Type 0
  ReadsRecord run (Ok end) = ReadsTo run end
  ReadsRecord run (Err failed) = ReadsUntil run

-- a record was read from its beginning, where the input tells its bytes
abbrev pub HasReadRecord : Disks → Streams → Run → Run → Result RunEnd Failed → Type 0
HasReadRecord disks streams before run result = (site : Site) (kept : Retained)
    → Stands site kept at_beginning before
    → IfSome streams.input.before (λ bytes. ReadsRecord site kept bytes streams.input.after
    (outside_before disks streams.old before) (outside_after disks streams.new run) run result)

-- The ticks that a run made of the bytes that were read, and in which of them Keep's turn failed: as many as the
-- outcome tells. What is due is shown in them and nothing without its cause, and with the last line their text is that
-- of the one timeline that they have, which is in form.
pub record HasMade (site : Site) (kept : Retained) (consumed : List ℕ) (ticks : List TickBlock) (outcome : Outcome) :
    Type 0 where
  pub of : AreTicksOf site consumed ticks
  pub count : outcome.ticks ≡ length ticks
  pub failed : outcome.store_failures ≡ failures ticks
  pub promises : KeepsPromises site kept ticks
  pub form : IsInForm site (timeline_of site kept (moments ticks))
  pub told : whole_text site kept ticks ≡ text_of site (timeline_of site kept (moments ticks))

-- nothing was read of an input
pub record IsUnread (input : Input) : Type 0 where
  pub left : input.after ≡ input.before
  pub faults : input.faults_after ≡ input.faults_before

module _ (site : Site) (kept : Retained) (digest : List ℕ) (disk : JournalDisk) (input : Input) (bytes : List ℕ) (old
    new : Option (List ℕ)) (outcome : Outcome) where
  -- the run read these bytes and ended so: it wrote the text of their ticks and then the last line, or a front of that
  -- with a write fault
  pub record RanTo (end : RunEnd) : Type 0 where
    pub consumed : List ℕ
    pub rest : List ℕ
    pub run : List TickBlock
    pub whole : bytes ≡ consumed ++ rest
    pub ahead : ReadsAhead rest input.after
    pub ended : EndsRun site bytes consumed end
    -- a read failed, and what was read holds neither the end nor a refused line
    pub fault : end ≡ ReadFault → Rose input.faults_before input.faults_after × (input.after ≡ Some rest)
    pub made : HasMade site kept consumed run outcome
    pub cut : LeavesAcknowledged site kept digest disk run
    pub mid : Option (List ℕ)
    pub told : Grows old mid (text_so_far site kept run)
    pub says : Says (status_of end) (last_line outcome.ticks end) mid new outcome.status

  -- A write failed in the text of the last of these ticks, which the last line of these bytes closed: it wrote a front
  -- of that behind the text of the ticks before, and no more of the record was read than comes at a time.
  pub record RanUntil : Type 0 where
    pub consumed : List ℕ
    pub rest : List ℕ
    pub last : TickBlock
    pub before : List TickBlock
    pub whole : bytes ≡ consumed ++ rest
    pub ahead : ReadsAhead rest input.after
    pub closed : EndWithClosing site consumed before
    pub made : HasMade site kept consumed (last ∷ before) outcome
    pub cut : LeavesAcknowledged site kept digest disk (last ∷ before)
    pub status : outcome.status ≡ number_of WriteFault
    pub mid : Option (List ℕ)
    pub told : Grows old mid (text_so_far site kept before)
    pub broke : Breaks mid new (text_so_far site kept before) (text_so_far site kept (last ∷ before))

  -- The first write failed: a front of what is told before the first tick was written, and nothing of the record was
  -- read.
  pub record StopsAtOpening : Type 0 where
    pub unread : IsUnread input
    pub cut : LeavesAcknowledged site kept digest disk []
    pub status : outcome.status ≡ number_of WriteFault
    pub ticks : outcome.ticks ≡ 0
    pub failures : outcome.store_failures ≡ 0
    pub broke : GrowsByFront old new (opening_text site kept)

  -- a run with what the journal kept: memory ran out before anything was read or written, the first write failed, the
  -- run came to an end, or a later write failed
  abbrev pub RanOn : Type 0
  RanOn = (RanNothing old new outcome × IsUnread input × LeavesAcknowledged site kept digest disk [])
      ⊎ StopsAtOpening ⊎ ((end : RunEnd) × RanTo end) ⊎ RanUntil

-- a run with a journal, whatever its disk told when it was opened
abbrev pub RanFrom : Site → Journal → (Option (List ℕ) → JournalDisk) → Streams → Outcome → Type 0
RanFrom site journal disk streams outcome = (digest : List ℕ) (seen : Option (List ℕ))
    → IsJournalOf digest seen journal → IfSome streams.input.before (λ bytes.
    RanOn site journal.kept digest (disk seen) streams.input bytes streams.old streams.new outcome)

-- The journal can't be used: it is another site's, damaged or none at all, or its disk failed. Its file stays as it
-- is, unless it was empty, and nothing is read of the record.
pub record StopsAtJournal (site : Site) (digest : List ℕ) (disk : JournalDisk) (input : Input) (old new : Option (List
    ℕ)) (outcome : Outcome) : Type 0 where
  pub refusal : OpenRefusal
  pub cause : IsRefusalOf (is_wide site) digest disk.seen refusal
  pub spared : UnlessEmpty disk.seen (disk.told ≡ disk.seen)
  pub unread : IsUnread input
  pub says : Says (journal_status refusal) (journal_text refusal) old new outcome.status
  pub ticks : outcome.ticks ≡ 0
  pub failures : outcome.store_failures ≡ 0

-- the journal kept this, and the run went on from it
pub record RanKept (site : Site) (digest : List ℕ) (disk : JournalDisk) (input : Input) (bytes : List ℕ) (old new :
    Option (List ℕ)) (outcome : Outcome) : Type 0 where
  pub kept : Retained
  pub keeps : KeepsFor site digest disk.seen kept
  pub ran : RanOn site kept digest disk input bytes old new outcome

-- What a run of a site over the bytes of a record came to, by what its disk holds.
abbrev pub Ran : Site → List ℕ → JournalDisk → Input → List ℕ → Option (List ℕ) → Option (List ℕ) → Outcome → Type 0
Ran site digest disk input bytes old new outcome =
    StopsAtJournal site digest disk input old new outcome ⊎ RanKept site digest disk input bytes old new outcome

-- what a run of a site over the bytes of a record came to, by what its disk holds, where the input tells these bytes
abbrev pub RanOver : Site → List ℕ → JournalDisk → Streams → Outcome → Type 0
RanOver site digest disk streams outcome = IfSome streams.input.before (λ bytes.
    Ran site digest disk streams.input bytes streams.old streams.new outcome)
