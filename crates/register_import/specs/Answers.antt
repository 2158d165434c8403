-- What is answered to a file, and what is kept then.
use Rattle.std.specs.Prelude.{◌≡◌, ◌⊎◌, ℕ, ◌≤◌, List, length, Option, Result, Ok, Err, IfSome, ⊤}
use Rattle.panel_edges.specs.Faults.{Rose}
use Rattle.register_import.specs.Judged.{HasRecords, file_judged, tables_of_rows}
use Rattle.register_import.specs.Puts.{PutsFront, PutsRows}
use Rattle.register_import.specs.Rows.{ImportedTest}
use Rattle.register_import.specs.declared.imported.Imported.{Imported}
use Rattle.register_import.specs.declared.refusal.ImportRefusal.{ImportRefusal}
use Rattle.register_import.specs.declared.refusal.ImportRefusal.TheVariants.{KeeperFault, NoMemory, Row}
use Rattle.service_keepers.specs.Keeping.{ChangesBy}
use Rattle.service_keepers.specs.Tables.{Tables}
use Rattle.service_keepers.specs.declared.keep_fault.KeepFault.{KeepFault}
use Rattle.service_keepers.specs.declared.keep_fault.KeepFault.TheVariants.{Failed, NoMemory as IsFull}
use Rattle.site_types.specs.declared.site.Site.{Site}

-- the distinct visits of some rows and their distinct pairs
pub record Counts (rows : List ImportedTest) (imported : Imported) : Type 0 where
  pub visits : imported.visits ≡ length (tables_of_rows rows).visits
  pub tests : imported.tests ≡ length (tables_of_rows rows).tests

-- no row is refused, and all are put
pub record Imports (site : Site) (records : List (List (List ℕ))) (imported : Imported) (old new : Tables) : Type 0
  where
    pub rows : List ImportedTest
    pub accepted : file_judged site old records ≡ Ok rows
    pub puts : PutsRows rows old new
    pub counts : Counts rows imported

-- no row is refused, and some first ones are put
pub record ImportsFront (site : Site) (records : List (List (List ℕ))) (old new : Tables) : Type 0 where
  pub rows : List ImportedTest
  pub accepted : file_judged site old records ≡ Ok rows
  pub puts : PutsFront rows old new

-- nothing is put, or some first rows
abbrev pub LeavesFront : Site → List ℕ → Option Tables → Option Tables → Type 0
LeavesFront site bytes old new =
    (new ≡ old) ⊎ ((records : List (List (List ℕ))) × HasRecords bytes records
    × ChangesBy (ImportsFront site records) old new)

-- What is answered to a file, by its records and what is kept before and after, where that is told. Behind a fault
-- of the keeper or want of memory nothing is put, or some first rows of a file in which none is refused.
abbrev pub AnswersFile : Site → List ℕ → Result Imported ImportRefusal → Option Tables → Option Tables → Type 0
AnswersFile site bytes (Ok imported) old new =
    (records : List (List (List ℕ))) × HasRecords bytes records × ChangesBy (Imports site records imported) old new
AnswersFile site bytes (Err (Row row why)) old new =
    (records : List (List (List ℕ))) × HasRecords bytes records
    × IfSome old (λ kept. file_judged site kept records ≡ Err (row, why)) × (new ≡ old)
AnswersFile site bytes (Err KeeperFault) old new = LeavesFront site bytes old new
AnswersFile site bytes (Err NoMemory) old new = LeavesFront site bytes old new

-- a refusal of the keeper or of memory
abbrev pub IsFaultOrWant : ImportRefusal → Type 0
IsFaultOrWant (Row row why) = ⊥
IsFaultOrWant KeeperFault = ⊤
IsFaultOrWant NoMemory = ⊤

-- what a fault of the keeper is to an import
abbrev pub fault_as_refusal : KeepFault → ImportRefusal
fault_as_refusal Failed = KeeperFault
fault_as_refusal IsFull = NoMemory

-- The keeper's count of faults never falls, and a call that answered KeeperFault has raised it.
pub record HasImportCause {T : Type 0} (before after : ℕ) (result : Result T ImportRefusal) : Type 0 where
  pub later : before ≤ after
  pub failed : result ≡ Err KeeperFault → Rose before after
