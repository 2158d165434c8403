-- A fault of the shelf may have come earlier too.
use Rattle.std.proofs.Common.{ℕ, List, Option}
use Rattle.named_files.specs.Fetched.{HasNoBytes}
use Rattle.named_files.specs.declared.file_stop.FileStop.{FileStop}
use Rattle.named_files.specs.declared.file_stop.FileStop.TheVariants.{NoFile, ReadFault, NoMemory}

pub missing_since : (rose since : Type 0) → (rose → since) → (file : Option (List ℕ)) (stop : FileStop) → HasNoBytes rose file stop
    → HasNoBytes since file stop
missing_since rose since f file NoFile h = h
missing_since rose since f file ReadFault h = f h
missing_since rose since f file NoMemory h = h
