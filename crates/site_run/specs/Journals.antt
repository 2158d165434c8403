-- The journal that a run opens.
use Rattle.std.specs.Prelude.{◌≤◌, ℕ, List, [], Option, IfSome}
use Rattle.site_types.specs.declared.retained.Retained.{Retained}
use Rattle.site_types.specs.declared.site.Site.{Site}
use Rattle.keep_batch.specs.MakingLaws.{is_wide}
use Rattle.retained_journal.specs.declared.journal.Journal.{Journal}
use Rattle.retained_journal.specs.Images.{IsSound}
use Rattle.retained_journal.specs.Outcomes.{IsKeptIn}
use Rattle.panel_core.specs.Keeping.{KeepsRun}

-- a journal was opened for a site and keeps this
pub record IsOpenFor (site : Site) (kept : Retained) (journal : Journal) : Type 0 where
  pub keeps : KeepsRun site kept [] journal
  pub sound : IsSound journal
  pub tried : journal.tried ≤ 0

-- what the file of a site keeps, where the disk tells its bytes
abbrev pub KeepsFor : Site → List ℕ → Option (List ℕ) → Retained → Type 0
KeepsFor site digest seen kept = IfSome seen (IsKeptIn (is_wide site) digest kept)
