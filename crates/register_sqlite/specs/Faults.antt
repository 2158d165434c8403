-- What kept a call of a keeper from its answer, and when the count of faults rises: by one in a call that met a fault,
-- and in no other. Want of memory is no fault.
use Rattle.std.specs.Prelude.{◌≡◌, ◌⊎◌, ℕ, ◌+◌, ◌≤◌, ◌^◌, List, length, IsOk, Option, Some, None, Result, Err}
use Rattle.panel_edges.specs.Faults.{counted}
use Rattle.sqlite.specs.declared.error.Error.TheVariants.{SqliteFailure}
use Rattle.sqlite.specs.declared.error.ErrorCode.TheVariants.{NoRowid, OutOfMemory}
use Rattle.service_keepers.specs.Keeping.{HasKeepCause}
use Rattle.service_keepers.specs.Tables.{TestRow}
use Rattle.service_keepers.specs.declared.keep_fault.KeepFault.{KeepFault}
use Rattle.service_keepers.specs.declared.keep_fault.KeepFault.TheVariants.{Failed, NoMemory}
use Rattle.register_sqlite.specs.declared.trouble.Trouble.{Trouble}
use Rattle.register_sqlite.specs.declared.trouble.Trouble.TheVariants.{Opening, Text, Value}

-- the database refused the opening or a text since it got no memory
abbrev pub IsWantOfMemory : Trouble → Type 0
IsWantOfMemory (Opening error) = error ≡ SqliteFailure OutOfMemory
IsWantOfMemory (Text error) = error ≡ SqliteFailure OutOfMemory
IsWantOfMemory Value = ⊥

-- Why a test is not put among so many: for want of memory, or since the place behind them is no number of 63 bits, as
-- the places of rows are. Nothing bounds how many tests a register keeps, so that the second never comes is not known.
abbrev pub RefusesTest : List TestRow → Trouble → Type 0
RefusesTest tests trouble =
    IsWantOfMemory trouble ⊎ ((trouble ≡ Text (SqliteFailure NoRowid)) × (2 ^ 63 ≤ length tests + 1))

-- A call that met nothing is answered and leaves the count. One that met want of memory says so and leaves the count.
-- One that met anything else has failed, and the count rose by one, up to its type's last value.
pub record CountsFaults {T : Type 0} (before after : ℕ) (met : Option Trouble) (result : Result T KeepFault)
    : Type 0 where
  pub cause : HasKeepCause before after result
  pub answered : met ≡ None → IsOk result × (after ≡ before)
  pub memory : (trouble : Trouble) → met ≡ Some trouble → IsWantOfMemory trouble
      → (result ≡ Err NoMemory) × (after ≡ before)
  pub fault : (trouble : Trouble) → met ≡ Some trouble → ¬ IsWantOfMemory trouble
      → (result ≡ Err Failed) × (after ≡ counted before)
