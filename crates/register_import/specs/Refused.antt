-- A file or a row is refused as it is judged. A fault of the keeper and want of memory are free.
use Rattle.std.specs.Prelude.{◌≡◌, ℕ, List, Result, Err, ⊤}
use Rattle.register_import.specs.Rows.{ImportedTest}
use Rattle.register_import.specs.declared.refusal.ImportRefusal.{ImportRefusal}
use Rattle.register_import.specs.declared.refusal.ImportRefusal.TheVariants.{KeeperFault, NoMemory, Row}

abbrev pub RefusesFile : Result (List ImportedTest) (ℕ × ℕ) → ImportRefusal → Type 0
RefusesFile judged (Row row why) = judged ≡ Err (row, why)
RefusesFile judged KeeperFault = ⊤
RefusesFile judged NoMemory = ⊤

-- the row of a number
abbrev pub RefusesRow : ℕ → Result ImportedTest ℕ → ImportRefusal → Type 0
RefusesRow number judged (Row row why) = (row ≡ number) × (judged ≡ Err why)
RefusesRow number judged KeeperFault = ⊤
RefusesRow number judged NoMemory = ⊤
