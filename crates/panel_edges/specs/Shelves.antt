-- What a shelf of files answers to a name.
use Rattle.std.specs.Prelude.{◌≡◌, ℕ, ◌<◌, ◌≤◌, List, [], ◌∷◌, length, Option, Some, None, Result, Ok, Err}
use Rattle.std.specs.Prelude.{if◌then◌else◌, bytes_eq, string_bytes}
use Rattle.panel_edges.specs.Limits.{most_file_bytes}
use Rattle.panel_edges.specs.declared.fetching.Found.{Found}
use Rattle.panel_edges.specs.declared.fetching.Found.TheVariants.{Here, Absent}
use Rattle.panel_edges.specs.declared.fetching.FetchFault.{FetchFault}
use Rattle.panel_edges.specs.declared.fetching.FetchFault.TheVariants.{Failed, TooLong, NoMemory}
use Rattle.panel_edges.specs.declared.shelf_file.ShelfFile.{ShelfFile}

-- the bytes that stand under a name, by the list of names and bytes; of two entries of one name the first
-- counts
abbrev pub file_of : List ℕ → List (List ℕ × List ℕ) → Option (List ℕ)
file_of name [] = None
file_of name (file ∷ files) = if bytes_eq file.0 name then Some file.1 else file_of name files

-- the name and the bytes of a file in memory
abbrev pub file_view : ShelfFile → List ℕ × List ℕ
file_view file = (string_bytes file.name, file.bytes.items)

-- What a fetch answers, by the file that stands under the name. A fault and want of memory are free.
abbrev pub Fetched : Option (List ℕ) → Result Found FetchFault → List ℕ → Type 0
Fetched file (Ok Here) into = file ≡ Some into
Fetched file (Ok Absent) into = file ≡ None
Fetched file (Err TooLong) into = (bytes : List ℕ) × (file ≡ Some bytes) × (most_file_bytes < length bytes)
Fetched file (Err Failed) into = Unit {0}
Fetched file (Err NoMemory) into = Unit {0}

-- what was handed over to be filled holds at most a whole file where the file is here, and in every other
-- case what it held
abbrev pub Filled : Result Found FetchFault → List ℕ → List ℕ → Type 0
Filled (Ok Here) old new = length new ≤ most_file_bytes
Filled (Ok Absent) old new = new ≡ old
Filled (Err fault) old new = new ≡ old
