-- What a turn of Keep makes of the journal, and what it answers.
use Rattle.std.specs.Prelude.{◌≡◌, ◌&&◌, ◌||◌, ℕ, Bool, true, false, List, [], ◌∷◌}
use Rattle.panel_edges.specs.Faults.{Rose}
use Rattle.site_types.specs.declared.change.Change.{Change}

-- there is something to commit
abbrev pub has_batch : List Change → Bool
has_batch [] = false
has_batch (change ∷ changes) = true

-- a turn of Keep first mends the journal where an earlier call left it torn, then commits its batch where
-- there is one; it fails where the one or the other does
abbrev pub turn_fails : Bool → Bool → List Change → Bool → Bool
turn_fails torn mending_fails changes committing_fails =
    (torn && mending_fails) || (has_batch changes && committing_fails)

-- a turn of Keep fails only where a call of the disk failed in it: the count of failed calls has risen from before to
-- after the turn, or stands at its last value
abbrev pub FailsByTheDisk : Bool → ℕ → ℕ → Type 0
FailsByTheDisk failed before after = failed ≡ true → Rose before after

-- what a turn of Keep answers
pub data KeepAnswer : Type 0 where
  Idle : KeepAnswer
  Stored : KeepAnswer
  NotStored : KeepAnswer

-- the answer by whether the turn failed and by the batch: a turn with nothing to commit is idle, where it had
-- nothing to mend or mended it
abbrev pub keep_answer : Bool → List Change → KeepAnswer
keep_answer true changes = NotStored
keep_answer false [] = Idle
keep_answer false (change ∷ changes) = Stored
