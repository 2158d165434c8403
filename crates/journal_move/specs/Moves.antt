-- What a move to a changed site tells, how it ends, and what it leaves of the two journals.
use Rattle.std.specs.Prelude.{◌≡◌, ◌==◌, ◌⊎◌, ℕ, Bool, List, length, Option, IfSome, Result, Ok, Err}
use Rattle.journal_move.specs.Disks.{DiskCall, Disks}
use Rattle.dropped_settings.specs.Moved.{moved_text}
use Rattle.journal_refusals.specs.JournalTexts.{journal_status, journal_text, target_status, target_text}
use Rattle.program_status.specs.declared.outcome.Outcome.{Outcome}
use Rattle.program_status.specs.declared.status.Status.TheVariants as exit
use Rattle.retained_journal.specs.declared.create_refusal.CreateRefusal.{CreateRefusal}
use Rattle.retained_journal.specs.declared.open_refusal.OpenRefusal.{OpenRefusal}
use Rattle.retained_journal.specs.Opening.{Opens, opened}
use Rattle.retained_journal.specs.Outcomes.{IsKeptIn, IsLengthOf, IsRefusalOf}
use Rattle.site_commands.specs.declared.loaded.Loaded.{Loaded}
use Rattle.site_commands.specs.declared.stop.Stop.{Stop}
use Rattle.site_commands.specs.Commands.{AnswersOver, RanNothing, Tells}
use Rattle.site_commands.specs.Files.{Files}
use Rattle.site_commands.specs.Refusals.{old_stop_text, stop_status, stop_text}
use Rattle.site_types.specs.Carry.{carried}
use Rattle.site_types.specs.declared.retained.Retained.{Retained}
use Rattle.site_types.specs.declared.site.Site.{Site}

-- a site and the digest of its file, by which a journal knows it
pub record SiteFile : Type 0 where
  pub site : Site
  pub digest : List ℕ

abbrev pub file_of_site : Loaded → SiteFile
file_of_site loaded = record { site = loaded.site; digest = loaded.digest }

-- the journal of a site of format 2 has room for its longer loops
abbrev pub is_wide_for : SiteFile → Bool
is_wide_for file = file.site.format == 2

-- a crash leaves only files that open for the site to this state, where what is said of a crash holds of the disk
abbrev pub LeavesFor : SiteFile → Retained → DiskCall → Type 0
LeavesFor file state disk =
    disk.honest → (bytes : List ℕ) → disk.images bytes → opened (is_wide_for file) file.digest bytes ≡ Opens state

-- ---- where both sites are at hand

module _ (old new : SiteFile) (kept : Retained) (target : DiskCall) (before after : Option (List ℕ)) (outcome :
    Outcome) where
  -- memory ran out before the new journal was made
  pub record StopsBeforeTarget : Type 0 where
    pub alone : target.alone
    pub silent : RanNothing before after outcome

  -- the new journal isn't made, and it is told why: the file isn't empty, or its disk failed
  pub record StopsAtTarget : Type 0 where
    pub refusal : CreateRefusal
    pub cause : IsLengthOf target.seen refusal
    pub tells : Tells (target_status refusal) (target_text refusal) before after outcome

  -- the new journal was made in an empty file, with what the new site takes of what was kept, and the text tells what
  -- was dropped and the numbers set
  pub record HasMoved : Type 0 where
    pub empty : IfSome target.seen (λ bytes. length bytes ≡ 0)
    pub made : LeavesFor new (carried old.site new.site kept) target
    pub tells : Tells exit.Done (moved_text old.site new.site kept) before after outcome

  abbrev pub EndsAtTarget : Type 0
  EndsAtTarget = StopsBeforeTarget ⊎ StopsAtTarget ⊎ HasMoved

module _ (old new : SiteFile) (disks : Disks) (before after : Option (List ℕ)) (outcome : Outcome) where
  -- the old journal isn't opened, and it is told why; the new one isn't begun
  pub record StopsAtJournal : Type 0 where
    pub refusal : OpenRefusal
    pub cause : IsRefusalOf (is_wide_for old) old.digest disks.journal.seen refusal
    pub alone : disks.target.alone
    pub tells : Tells (journal_status refusal) (journal_text refusal) before after outcome

  -- the old journal was opened to this, and whatever comes then it goes on holding it
  pub record MovesKept : Type 0 where
    pub kept : Retained
    pub keeps : IfSome disks.journal.seen (IsKeptIn (is_wide_for old) old.digest kept)
    pub holds : LeavesFor old kept disks.journal
    pub ends : EndsAtTarget old new kept disks.target before after outcome

  abbrev pub MovesBetween : Type 0
  MovesBetween = StopsAtJournal ⊎ MovesKept

-- ---- by the files of the two sites

-- one of the sites isn't at hand, and it is told why; both disks are left alone
pub record StopsAtSite (disks : Disks) (stop : Stop) (text : List ℕ) (before after : Option (List ℕ)) (outcome :
    Outcome) : Type 0 where
  pub journal_alone : disks.journal.alone
  pub target_alone : disks.target.alone
  pub tells : Tells (stop_status stop) text before after outcome

-- what a move from a site comes to, by what stands under the name of the new one
abbrev pub MovesTo : SiteFile → List ℕ → Disks → Option (List ℕ) → Option (List ℕ) → Outcome → Result Site Stop → Type 0
MovesTo old digest disks before after outcome (Ok site) =
    MovesBetween old (record { site = site; digest = digest }) disks before after outcome
MovesTo old digest disks before after outcome (Err stop) =
    StopsAtSite disks stop (stop_text stop) before after outcome

abbrev pub MovesOn : SiteFile → List ℕ → Files → Disks → Option (List ℕ) → Option (List ℕ) → Outcome → Type 0
MovesOn old new_name files disks before after outcome =
    AnswersOver files new_name (λ digest. MovesTo old digest disks before after outcome)

-- what a move comes to, by what stands under the name of the old site
abbrev pub MovesFrom : Files → List ℕ → List ℕ → Disks → Option (List ℕ) → Option (List ℕ) → Outcome
    → Result Site Stop → Type 0
MovesFrom files new_name digest disks before after outcome (Ok site) =
    MovesOn (record { site = site; digest = digest }) new_name files disks before after outcome
MovesFrom files new_name digest disks before after outcome (Err stop) =
    StopsAtSite disks stop (old_stop_text stop) before after outcome

-- what a move answers: the old site is looked at first, then the new one, where the shelf tells its files
abbrev pub AnswersMove : List ℕ → List ℕ → Files → Disks → Option (List ℕ) → Option (List ℕ) → Outcome → Type 0
AnswersMove old_name new_name files disks before after outcome =
    AnswersOver files old_name (λ digest. MovesFrom files new_name digest disks before after outcome)
