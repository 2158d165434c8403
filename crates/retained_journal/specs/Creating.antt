-- When creating a journal may fail.
use Rattle.std.specs.Prelude.{◌≡◌, ◌≤◌, ℕ, Result, Err}
use Rattle.panel_edges.specs.Faults.{Rose}
use Rattle.retained_journal.specs.declared.create_refusal.CreateRefusal.{CreateRefusal}
use Rattle.retained_journal.specs.declared.create_refusal.CreateRefusal.TheVariants.{DiskFault}

-- The count of faults never falls, and an answer of a fault has raised it.
pub record HasCreateCause {T : Type 0} (before after : ℕ) (result : Result T CreateRefusal) : Type 0 where
  pub later : before ≤ after
  pub failed : result ≡ Err DiskFault → Rose before after
