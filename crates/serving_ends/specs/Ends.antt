-- How serving behind a door ends, and what is told of it.
use Rattle.std.specs.Prelude.{◌≡◌, ◌+◌, ◌-◌, ◌^◌, ◌<◌, ◌≤◌, ℕ, false, true, List, ◌++◌, Option, codes, decimal}
use Rattle.panel_edges.specs.Faults.{Rose}
use Rattle.program_status.specs.Sayings.{Says}
use Rattle.program_status.specs.Statuses.{BlamesDisk, number_of}
use Rattle.program_status.specs.declared.outcome.Outcome.{Outcome}
use Rattle.program_status.specs.declared.status.Status.TheVariants.{Done, DoorFault}
use Rattle.serving_ends.specs.declared.serving_end.ServingEnd.{ServingEnd}

-- what is told at the end: how many connections were served
abbrev pub served_line : ℕ → List ℕ
served_line count = codes "served " ++ decimal count ++ codes "\n"

-- what is told at the end: that the door failed
abbrev pub door_line : List ℕ
door_line = codes "fault door\n"

-- a number of connections that may be asked for
abbrev pub IsCount : ℕ → Type 0
IsCount count = (1 ≤ count) × (count ≤ 1000000)

-- the last line of serving that ended so was written
pub record SaysEnd (end : ServingEnd) (old new : Option (List ℕ)) (status : ℕ) : Type 0 where
  pub whole : end.failed ≡ false → Says Done (served_line end.served) old new status
  pub part : end.failed ≡ true → Says DoorFault door_line old new status

-- the door's count of faults never falls, and has risen where the door failed
pub record BlamesDoor (before after : ℕ) (end : ServingEnd) : Type 0 where
  pub later : before ≤ after
  pub failed : end.failed ≡ true → Rose before after

-- the failed ticks are no more than the disk's count of faults rose by, unless that stands at its last value
pub record BlamesStores (outcome : Outcome) (before after : ℕ) : Type 0 where
  pub later : before ≤ after
  pub failed : after < 2 ^ 64 - 1 → outcome.store_failures + before ≤ after

-- the outcome is a disk fault or a door fault only where the count of the disk or of the door has risen, and the failed
-- ticks are no more than the disk's count rose by
pub record BlamesServing (outcome : Outcome) (disk_old disk_new door_old door_new : ℕ) : Type 0 where
  pub disk : BlamesDisk outcome disk_old disk_new
  pub stores : BlamesStores outcome disk_old disk_new
  pub door : outcome.status ≡ number_of DoorFault → Rose door_old door_new
