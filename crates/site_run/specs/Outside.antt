-- What a run finds outside: what was written, and the disk on which its journal stands.
use Rattle.std.specs.Prelude.{ℕ, List, Option}
use Rattle.retained_journal.specs.declared.journal.Journal.{Journal}
use Rattle.site_run.specs.declared.run.Run.{Run}

-- what is told of the disks of one kind: whether what is said of a power cut holds of one, which files it may leave
-- now, and which since some moment, within a call too
pub record DiskKind : Type 1 where
  pub Of : Type 0
  pub honest : Of → Type 0
  pub images : Of → List ℕ → Type 0
  pub moment : Of → ℕ
  pub left_since : Of → ℕ → List ℕ → Type 0

-- a disk with the journal that stands on it
pub record Stored (kind : DiskKind) : Type 0 where
  pub disk : kind.Of
  pub journal : Journal

pub record Outside (kind : DiskKind) : Type 0 where
  pub written : Option (List ℕ)
  pub stored : Stored kind

-- the disk before a call and after it
pub record Disks : Type 1 where
  pub kind : DiskKind
  pub old : kind.Of
  pub new : kind.Of

module _ {D : Type 0} (honest : D → Type 0) (images : D → List ℕ → Type 0) (moment : D → ℕ) (left_since : D → ℕ
    → List ℕ → Type 0) where
  abbrev pub disk_kind : DiskKind
  disk_kind = record { Of = D; honest = honest; images = images; moment = moment; left_since = left_since }

  abbrev pub disks_of : D → D → Disks
  disks_of old new = record { kind = disk_kind; old = old; new = new }

abbrev pub stored_old : (disks : Disks) → Run → Stored disks.kind
stored_old disks run = record { disk = disks.old; journal = run.journal }

abbrev pub stored_new : (disks : Disks) → Run → Stored disks.kind
stored_new disks run = record { disk = disks.new; journal = run.journal }

-- what a run finds before a call, and what it leaves
abbrev pub outside_before : (disks : Disks) → Option (List ℕ) → Run → Outside disks.kind
outside_before disks written run = record { written = written; stored = stored_old disks run }

abbrev pub outside_after : (disks : Disks) → Option (List ℕ) → Run → Outside disks.kind
outside_after disks written run = record { written = written; stored = stored_new disks run }
