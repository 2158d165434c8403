-- What the commands on a site file answer.
use Rattle.std.specs.Prelude.{◌≡◌, ◌⊎◌, ℕ, List, Option, IfSome, Result, Ok, Err}
use Rattle.panel_edges.specs.Faults.{Rose}
use Rattle.panel_edges.specs.Shelves.{file_of}
use Rattle.site_types.specs.declared.site.Site.{Site}
use Rattle.program_status.specs.declared.outcome.Outcome.{Outcome}
use Rattle.program_status.specs.declared.status.Status.{Status}
use Rattle.program_status.specs.declared.status.Status.TheVariants as exit
use Rattle.program_status.specs.Sayings.{Says}
use Rattle.program_status.specs.Statuses.{number_of}
use Rattle.site_commands.specs.declared.stop.Stop.{Stop}
use Rattle.site_commands.specs.Counts.{counts_line}
use Rattle.site_commands.specs.Files.{Files}
use Rattle.site_commands.specs.Matrix.{IsMatrix}
use Rattle.site_commands.specs.Refusals.{stop_status, stop_text}
use Rattle.site_commands.specs.Sites.{Loads, file_digest}

-- one text was written, and no tick was run
pub record Tells (status : Status) (text : List ℕ) (old new : Option (List ℕ)) (outcome : Outcome) : Type 0 where
  pub says : Says status text old new outcome.status
  pub ticks : outcome.ticks ≡ 0
  pub failures : outcome.store_failures ≡ 0

-- memory ran out before anything was written
pub record RanNothing (old new : Option (List ℕ)) (outcome : Outcome) : Type 0 where
  pub status : outcome.status ≡ number_of exit.NoMemory
  pub ticks : outcome.ticks ≡ 0
  pub failures : outcome.store_failures ≡ 0
  pub same : new ≡ old

-- what a command that has a site answers, by the file under the site's name
pub record AnswersBy (rose : Type 0) (file : Option (List ℕ)) (does : Result Site Stop → Type 0) : Type 0 where
  pub result : Result Site Stop
  pub loads : Loads rose file result
  pub did : does result

-- what a command that has a site answers, by the file under its name and the digest of that file
abbrev pub AnswersOver : Files → List ℕ → (List ℕ → Result Site Stop → Type 0) → Type 0
AnswersOver files name does = IfSome files.held (λ held. AnswersBy (Rose files.faults_before files.faults_after)
    (file_of name held) (does (file_digest (file_of name held))))

-- a check tells the counts of the site, or why there is none
abbrev pub Checks : Option (List ℕ) → Option (List ℕ) → Outcome → Result Site Stop → Type 0
Checks old new outcome (Ok site) = Tells exit.Done (counts_line site) old new outcome
Checks old new outcome (Err stop) = Tells (stop_status stop) (stop_text stop) old new outcome

abbrev pub AnswersCheck : List ℕ → Files → Option (List ℕ) → Option (List ℕ) → Outcome → Type 0
AnswersCheck name files old new outcome = AnswersOver files name (λ digest. Checks old new outcome)

-- The matrix tells which outputs each zone asks for, or why there is no site. Where memory ran out it ends so
-- and has written nothing. When memory is ample no clause can say, so this alone allows such an answer for
-- every site: trials ask for it with ample memory.
abbrev pub Draws : Option (List ℕ) → Option (List ℕ) → Outcome → Result Site Stop → Type 0
Draws old new outcome (Ok site) =
    RanNothing old new outcome ⊎ ((text : List ℕ) × IsMatrix site text × Tells exit.Done text old new outcome)
Draws old new outcome (Err stop) = Tells (stop_status stop) (stop_text stop) old new outcome

abbrev pub AnswersMatrix : List ℕ → Files → Option (List ℕ) → Option (List ℕ) → Outcome → Type 0
AnswersMatrix name files old new outcome = AnswersOver files name (λ digest. Draws old new outcome)
