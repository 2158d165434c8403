-- What a disk in memory means: its log, its images and when it fails.
use Rattle.std.specs.Prelude.{◌≡◌, ◌⊎◌, ◌↔◌, ℕ, ◌+◌, ◌<◌, ◌≤◌, List, [], ◌∷◌, ◌++◌, length, Result, IsErr}
use Rattle.panel_edges.specs.Crashes.{Elapses, Stays}
use Rattle.panel_edges.specs.DiskLogs.{Call, calls_of, left_by, left_after}
use Rattle.panel_edges.specs.Faults.{HasCause, IsListed, counted}
use Rattle.panel_edges.specs.declared.failed.Failed.{Failed}
use Rattle.panel_edges.specs.declared.memory_disk.MemoryDisk.{MemoryDisk}

-- the calls that its log holds
abbrev pub log_of : MemoryDisk → List Call
log_of disk = calls_of disk.log.items disk.log_bytes.items

-- what a crash may leave
abbrev pub images_of : MemoryDisk → List ℕ → Type 0
images_of disk c = left_by disk.start.items (log_of disk) c

-- what a crash may have left since a moment
abbrev pub left_of : MemoryDisk → ℕ → List ℕ → Type 0
left_of disk t c = left_after disk.start.items (log_of disk) t c

-- the moment of a disk is the number of calls in its log
abbrev pub moment_of : MemoryDisk → ℕ
moment_of disk = length (log_of disk)

-- the log has room for no call more
abbrev pub IsFull : MemoryDisk → Type 0
IsFull disk = disk.most_calls ≤ length disk.log.items

-- a write of so many bytes passes the log
abbrev pub IsPassed : MemoryDisk → ℕ → Type 0
IsPassed disk count = IsFull disk ⊎ (disk.most_written < length disk.log_bytes.items + count)

-- the log gained one call
pub record HasLogged (call : Call) (old new : MemoryDisk) : Type 0 where
  pub start : new.start.items ≡ old.start.items
  pub log : log_of new ≡ log_of old ++ call ∷ []

-- the log and what a read gives are as they were
pub record HasKept (old new : MemoryDisk) : Type 0 where
  pub start : new.start.items ≡ old.start.items
  pub log : log_of new ≡ log_of old
  pub bytes : new.bytes.items ≡ old.bytes.items

-- a call that reads: it fails exactly where its number is listed, and changes neither the bytes nor what a
-- crash may leave
pub record HasRead {T : Type 0} (old new : MemoryDisk) (result : Result T Failed) : Type 0 where
  pub kept : HasKept old new
  pub crash : Stays (images_of old) (images_of new)
  pub time : Elapses (moment_of old) (moment_of new) (left_of old) (left_of new) (images_of new)
  pub cause : HasCause old.faults new.faults result
  pub fails : IsErr result ↔ IsListed old.fails.items old.calls
  pub calls : new.calls ≡ counted old.calls
  pub list : new.fails.items ≡ old.fails.items
