-- The disks of a move, as it finds and leaves them.
use Rattle.std.specs.Prelude.{◌≡◌, ◌↔◌, ◌⊎◌, ◌≤◌, ℕ, List, Option}
use Rattle.panel_edges.specs.Faults.{Rose}
use Rattle.program_status.specs.Statuses.{number_of}
use Rattle.program_status.specs.declared.outcome.Outcome.{Outcome}
use Rattle.program_status.specs.declared.status.Status.TheVariants.{DiskFault, NoMemory}
use Rattle.retained_journal.specs.Outcomes.{SparesFull, UnlessEmpty}

-- what a disk told of its bytes before a call, whether the call left it alone, whether what is said of a crash holds of
-- it, and which files a crash may leave after the call
pub record DiskCall : Type 1 where
  pub seen : Option (List ℕ)
  pub alone : Type 0
  pub honest : Type 0
  pub images : List ℕ → Type 0

-- the disk of the old journal and that of the new one
pub record Disks : Type 1 where
  pub journal : DiskCall
  pub target : DiskCall

module _ {D : Type 0} (seen : D → Option (List ℕ)) (honest : D → Type 0) (images : D → List ℕ → Type 0) where
  abbrev pub disk_call : D → D → DiskCall
  disk_call old new = record { seen = seen old; alone = new ≡ old; honest = honest new; images = images new }

  abbrev pub disks_of : D → D → D → D → Disks
  disks_of old new target_old target_new =
      record { journal = disk_call old new; target = disk_call target_old target_new }

  -- nothing is written to a file that isn't empty, so a crash leaves what it might have left before; and what is said
  -- of a crash holds of the disk after the call as before it
  pub record Spares (moment : D → ℕ) (left_since : D → ℕ → List ℕ → Type 0) (old new : D) : Type 0 where
    pub same : UnlessEmpty (seen old) (seen new ≡ seen old)
    pub left : SparesFull honest seen moment left_since images old new
    pub kept_honest : honest new ↔ honest old

  -- both disks are spared; the outcome is a disk fault only where the count of faults of one of them rose, and where
  -- memory ran out the new journal isn't begun
  pub record SparesBoth (moment : D → ℕ) (left_since : D → ℕ → List ℕ → Type 0) (faults : D → ℕ)
      (old new target_old target_new : D) (outcome : Outcome) : Type 0 where
    pub journal : Spares moment left_since old new
    pub target : Spares moment left_since target_old target_new
    pub blamed : outcome.status ≡ number_of DiskFault
        → Rose (faults old) (faults new) ⊎ Rose (faults target_old) (faults target_new)
    pub later : faults old ≤ faults new
    pub before_target : outcome.status ≡ number_of NoMemory → target_new ≡ target_old
