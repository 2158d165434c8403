-- What a command that ends with a text has written.
use Rattle.std.specs.Prelude.{◌≡◌, ◌⊎◌, ℕ, List, Option}
use Rattle.panel_edges.specs.Contents.{Grows, GrowsByFront}
use Rattle.program_status.specs.declared.status.Status.{Status}
use Rattle.program_status.specs.declared.status.Status.TheVariants as exit
use Rattle.program_status.specs.Statuses.{number_of}

-- a command that is to end with a status and this text did so; or it ended with a write fault and wrote a
-- front of it
abbrev pub Says : Status → List ℕ → Option (List ℕ) → Option (List ℕ) → ℕ → Type 0
Says status text old new ended =
    (ended ≡ number_of status) × Grows old new text
    ⊎ (ended ≡ number_of exit.WriteFault) × GrowsByFront old new text
