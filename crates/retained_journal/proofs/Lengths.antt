-- Lengths of what lies behind a gate.
use Rattle.std.specs.Prelude.{ℕ}

-- a slot has this many bytes behind its gate
abbrev pub bytes_of_slot_body : ℕ
bytes_of_slot_body = 905

-- a cell has this many behind its gate and its number: how many changes it holds, and the changes
abbrev pub bytes_of_changes : ℕ
bytes_of_changes = 583
