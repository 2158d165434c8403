-- A turn of Keep and the calls of the disk in it.
use Rattle.std.proofs.Common.{◌≡◌, ℕ, ◌≤◌, ◌↔◌, ◌&&◌, not, List, [], ◌∷◌, inl, inr, Bool, true, false, refl, arith}
use Rattle.site_types.specs.declared.change.Change.{Change}
use Rattle.panel_edges.specs.Faults.{Rose}
use Rattle.panel_rules.specs.Storing.{has_batch, turn_fails, Idle, Stored, NotStored, keep_answer}
use Rattle.panel_laws.specs.StoringLaws.{KeepFailsByTheDisk, SoundTurnsSucceed, KeepAnswersTell}
use Rattle.panel_rules.proofs.Bools.{either, parts}

-- a count that rose in a part of a span rose in it
rose_early : (before mended after : ℕ) → mended ≤ after → Rose before mended → Rose before after
rose_early before mended after l rose = omega (arith, l, rose)

rose_late : (before mended after : ℕ) → before ≤ mended → Rose mended after → Rose before after
rose_late before mended after l rose = omega (arith, l, rose)

pub fails_by_the_disk : KeepFailsByTheDisk
fails_by_the_disk torn mending_fails committing_fails changes before mended after l m mending committing fails =
    elim (either (torn && mending_fails) (has_batch changes && committing_fails) fails) [
      | inl t ↦ rose_early before mended after m (mending (parts torn mending_fails t).1)
      | inr t ↦ rose_late before mended after l (committing (parts (has_batch changes) committing_fails t).1)
    ]

pub sound_turn : SoundTurnsSucceed
sound_turn = record { sound = sound; idle = idle }
  where
    sound : (torn : Bool) (changes : List Change) → turn_fails torn false changes false ≡ false
    sound true [] = refl
    sound true (change ∷ changes) = refl
    sound false [] = refl
    sound false (change ∷ changes) = refl

    idle : (mending_fails committing_fails : Bool) (changes : List Change) → has_batch changes ≡ false
        → keep_answer (turn_fails false mending_fails changes committing_fails) changes ≡ Idle
    idle mending_fails committing_fails [] e = refl
    idle mending_fails committing_fails (change ∷ changes) e = absurd cc

pub answers_tell : KeepAnswersTell
answers_tell = record {
  not_stored = not_stored;
  idle = idle;
  stored = stored;
}
  where
    not_stored : (failed : Bool) (changes : List Change) → (keep_answer failed changes ≡ NotStored) ↔ (failed ≡ true)
    not_stored true changes = ((λ e. refl), (λ e. refl))
    not_stored false [] = ((λ e. absurd cc), (λ e. absurd cc))
    not_stored false (change ∷ changes) = ((λ e. absurd cc), (λ e. absurd cc))

    idle : (failed : Bool) (changes : List Change) → (keep_answer failed changes ≡ Idle) ↔ ((not failed && not (has_batch changes)) ≡ true)
    idle true changes = ((λ e. absurd cc), (λ e. absurd cc))
    idle false [] = ((λ e. refl), (λ e. refl))
    idle false (change ∷ changes) = ((λ e. absurd cc), (λ e. absurd cc))

    stored : (failed : Bool) (changes : List Change) → (keep_answer failed changes ≡ Stored) ↔ ((not failed && has_batch changes) ≡ true)
    stored true changes = ((λ e. absurd cc), (λ e. absurd cc))
    stored false [] = ((λ e. absurd cc), (λ e. absurd cc))
    stored false (change ∷ changes) = ((λ e. refl), (λ e. refl))
