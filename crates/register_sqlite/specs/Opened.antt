-- What a keeper that opens its database at its first call makes of a call.
use Rattle.std.specs.Prelude.{◌≡◌, ◌⊎◌, IsErr, IsTrue, Option, Some, None, Result, Ok, Err}
use Rattle.sqlite.specs.Held.{Held, state}
use Rattle.sqlite.specs.Opening.{is_open_error}
use Rattle.sqlite.specs.State.{HasCleanDisk, IsLive, Opens}
use Rattle.sqlite.specs.Store.{Ghosts}
use Rattle.sqlite.specs.declared.error.Error.{Error}
use Rattle.service_keepers.specs.declared.keep_fault.KeepFault.{KeepFault}
use Rattle.register_sqlite.specs.Asked.{MakesTables}
use Rattle.register_sqlite.specs.declared.trouble.Trouble.{Trouble}
use Rattle.register_sqlite.specs.declared.trouble.Trouble.TheVariants.{Opening}

-- an answer is handed on, and a trouble is kept and told as a fault
abbrev pub TellsAnswer : {T : Type 0} → Result T Trouble → Option Trouble → Result T KeepFault → Type 0
TellsAnswer (Ok value) met result = (met ≡ None) × (result ≡ Ok value)
TellsAnswer (Err trouble) met result = (met ≡ Some trouble) × IsErr result

module _ {S : Type 0} (store : Ghosts S) where
  -- the connection was opened, and what its texts that make the tables were answered comes to this
  pub record HasOpened (conn : Held S) (result : Result (Unit {0}) Trouble) : Type 0 where
    pub opened : Held S
    pub opens : Opens (state store opened)
    pub live : IsLive (state store opened)
    pub tables : MakesTables store opened conn result

  -- None is opened where the library gives one of its errors of opening, or where a text that makes the tables is
  -- refused. Of that the trouble tells the error, if the disk handed back what was written.
  abbrev pub RefusesOpening : Trouble → Type 0
  RefusesOpening trouble =
      ((error : Error) × IsTrue (is_open_error error) × (trouble ≡ Opening error))
      ⊎ ((left : Held S) × (HasCleanDisk (state store left) → HasOpened left (Err trouble)))

  -- a database that is open stays, and else one is opened
  abbrev pub OpensWhere : Option (Held S) → Option (Held S) → Result (Unit {0}) Trouble → Type 0
  OpensWhere (Some old) new result = (new ≡ Some old) × (result ≡ Ok tt)
  OpensWhere None (Some new) result =
      (result ≡ Ok tt) × (HasCleanDisk (state store new) → HasOpened new (Ok tt))
  OpensWhere None None result = (trouble : Trouble) × (result ≡ Err trouble) × RefusesOpening trouble

  -- A call asks the database that is open, or one that it opens: if the disk handed back what was written, its answer
  -- is what that answered.
  abbrev pub AsksWhere : {T : Type 0} → (Held S → Held S → Result T Trouble → Type 0)
      → Option (Held S) → Option (Held S) → Result T Trouble → Type 0
  AsksWhere Asks (Some old) None answer = ⊥
  AsksWhere Asks (Some old) (Some new) answer = HasCleanDisk (state store new) → Asks old new answer
  AsksWhere Asks None (Some new) answer =
      HasCleanDisk (state store new) → (made : Held S) × HasOpened made (Ok tt) × Asks made new answer
  AsksWhere Asks None None answer = (trouble : Trouble) × (answer ≡ Err trouble) × RefusesOpening trouble

  -- what a call tells is what it was answered
  abbrev pub AsksAndTells : {T : Type 0} → (Held S → Held S → Result T Trouble → Type 0)
      → Option (Held S) → Option (Held S) → Option Trouble → Result T KeepFault → Type 0
  AsksAndTells {T} Asks old new met result =
      (answer : Result T Trouble) × AsksWhere Asks old new answer × TellsAnswer answer met result
