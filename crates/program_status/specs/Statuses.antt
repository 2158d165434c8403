-- The exit status of the program, and what must have come before some of them.
use Rattle.std.specs.Prelude.{◌≡◌, ℕ, List, Option}
use Rattle.panel_edges.specs.Faults.{Rose}
use Rattle.program_status.specs.declared.outcome.Outcome.{Outcome}
use Rattle.program_status.specs.declared.status.Status.{Status}
use Rattle.program_status.specs.declared.status.Status.TheVariants as exit

-- the number of each way in which a command ends
abbrev pub number_of : Status → ℕ
number_of exit.Done = 0
number_of exit.Usage = 2
number_of exit.BadSite = 3
number_of exit.BadRecord = 4
number_of exit.BadJournal = 5
number_of exit.ReadFault = 6
number_of exit.WriteFault = 7
number_of exit.DiskFault = 8
number_of exit.NoMemory = 9
number_of exit.DoorFault = 10
number_of exit.Limit = 11
number_of exit.AuditFailed = 12
number_of exit.BadFile = 13
number_of exit.BadRow = 14
number_of exit.KeeperFault = 15

-- a command ends with a read fault only where the count of those of a stream has risen, or stands at its last value
abbrev pub BlamesReads : Outcome → ℕ → ℕ → Type 0
BlamesReads outcome before after = outcome.status ≡ number_of exit.ReadFault → Rose before after

-- a command ends with a write fault only where the count of those of the output has risen, or stands at its last value
abbrev pub BlamesWrites : Outcome → ℕ → ℕ → Type 0
BlamesWrites outcome before after = outcome.status ≡ number_of exit.WriteFault → Rose before after

-- a command ends with a disk fault only where the count of those of a disk has risen, or stands at its last value
abbrev pub BlamesDisk : Outcome → ℕ → ℕ → Type 0
BlamesDisk outcome before after = outcome.status ≡ number_of exit.DiskFault → Rose before after

-- a command ends with a keeper fault only where the count of those of the keeper has risen, or stands at its last
-- value
abbrev pub BlamesKeeper : Outcome → ℕ → ℕ → Type 0
BlamesKeeper outcome before after = outcome.status ≡ number_of exit.KeeperFault → Rose before after

-- where memory ran out nothing was written
abbrev pub IsSilentWithoutMemory : Outcome → Option (List ℕ) → Option (List ℕ) → Type 0
IsSilentWithoutMemory outcome old new = outcome.status ≡ number_of exit.NoMemory → new ≡ old
