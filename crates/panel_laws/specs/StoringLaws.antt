-- When a turn of Keep fails, and what it answers.
use Rattle.std.specs.Prelude.{◌≡◌, ◌≤◌, ◌↔◌, ◌&&◌, not, ℕ, Bool, true, false, List}
use Rattle.site_types.specs.declared.change.Change.{Change}
use Rattle.panel_rules.specs.Storing.{has_batch, turn_fails, FailsByTheDisk, Idle, Stored, NotStored, keep_answer}

-- where mending and committing each fail only with a failed call of the disk, a turn of Keep does: by the
-- disk's counts before mending, between the two and after committing
abbrev pub KeepFailsByTheDisk : Type 0
KeepFailsByTheDisk =
    (torn mending_fails committing_fails : Bool) (changes : List Change) (before mended after : ℕ)
    → before ≤ mended
    → mended ≤ after → FailsByTheDisk mending_fails before mended
    → FailsByTheDisk committing_fails mended after
    → FailsByTheDisk (turn_fails torn mending_fails changes committing_fails) before after

-- a turn of Keep in which neither mending nor committing fails doesn't fail, also where an earlier call left
-- the journal torn; one with nothing torn and nothing to commit is idle
pub record SoundTurnsSucceed : Type 0 where
  pub sound : (torn : Bool) (changes : List Change) → turn_fails torn false changes false ≡ false
  pub idle : (mending_fails committing_fails : Bool) (changes : List Change) → has_batch changes ≡ false
      → keep_answer (turn_fails false mending_fails changes committing_fails) changes ≡ Idle

-- each answer of a turn of Keep comes exactly where its cause stands: not stored where it failed, else idle
-- where there was nothing to commit, else stored
pub record KeepAnswersTell : Type 0 where
  pub not_stored : (failed : Bool) (changes : List Change)
      → (keep_answer failed changes ≡ NotStored) ↔ (failed ≡ true)
  pub idle : (failed : Bool) (changes : List Change)
      → (keep_answer failed changes ≡ Idle) ↔ ((not failed && not (has_batch changes)) ≡ true)
  pub stored : (failed : Bool) (changes : List Change)
      → (keep_answer failed changes ≡ Stored) ↔ ((not failed && has_batch changes) ≡ true)
