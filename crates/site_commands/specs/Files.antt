-- The files of a shelf, as a command finds them.
use Rattle.std.specs.Prelude.{ℕ, List, Option}

-- the files that a shelf tells, where it tells them, and how many of its reads have failed before a call and after it
pub record Files : Type 0 where
  pub held : Option (List (List ℕ × List ℕ))
  pub faults_before : ℕ
  pub faults_after : ℕ

abbrev pub files_of : {F : Type 0} → (F → Option (List (List ℕ × List ℕ))) → (F → ℕ) → F → F → Files
files_of held faults old new =
    record { held = held old; faults_before = faults old; faults_after = faults new }
