-- What a command finds under the name of a file.
use Rattle.std.specs.Prelude.{◌≡◌, ◌<◌, ◌≤◌, ℕ, List, length, Option, Some, None, ⊤}
use Rattle.panel_edges.specs.Limits.{most_file_bytes}
use Rattle.named_files.specs.declared.file_stop.FileStop.{FileStop}
use Rattle.named_files.specs.declared.file_stop.FileStop.TheVariants.{NoFile, ReadFault, NoMemory}

-- there is no file, or one that is too long
abbrev pub IsNoFile : Option (List ℕ) → Type 0
IsNoFile None = ⊤
IsNoFile (Some bytes) = most_file_bytes < length bytes

-- these bytes stand under the name of a file, and no more than a file may have
pub record IsWhole (file : Option (List ℕ)) (bytes : List ℕ) : Type 0 where
  pub is : file ≡ Some bytes
  pub within : length bytes ≤ most_file_bytes

-- why there are no bytes at hand; a fault of the shelf comes only where its count rose, and want of memory is free
abbrev pub HasNoBytes : Type 0 → Option (List ℕ) → FileStop → Type 0
HasNoBytes rose file NoFile = IsNoFile file
HasNoBytes rose file ReadFault = rose
HasNoBytes rose file NoMemory = ⊤
