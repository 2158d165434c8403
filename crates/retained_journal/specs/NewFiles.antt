-- What a new journal file holds.
use Rattle.std.specs.Prelude.{◌≡◌, ◌⊎◌, ◌<◌, ◌≤◌, ℕ, Bool, List, length, slice_index}
use Rattle.site_types.specs.declared.retained.Retained.{Retained}
use Rattle.retained_journal.specs.Fields.{AreBytes, bytes_at}
use Rattle.retained_journal.specs.Places.{digest_place, file_mark, front_bytes, log_gate}
use Rattle.retained_journal.specs.Places.{first_slot_end, first_slot}
use Rattle.retained_journal.specs.Slots.{HasNarrowPoints, retained_at, slot_number}

-- a place between the digest and slot A, that of the log gate among them, or behind slot A
abbrev pub IsBesideSlot : ℕ → Type 0
IsBesideSlot place = ((log_gate ≤ place) × (place < first_slot)) ⊎ (first_slot_end ≤ place)

-- The front alone: the mark, the digest of the site, and slot A, which is open, has number 1 and holds a
-- state. All else is zero, so the log gate and slot B are shut.
pub record IsNewFile (digest : List ℕ) (state : Retained) (file : List ℕ) : Type 0 where
  pub size : length file ≡ front_bytes
  pub bytes : AreBytes file
  pub mark : bytes_at 8 0 file ≡ file_mark
  pub digest_kept : bytes_at 32 digest_place file ≡ digest
  pub slot_open : slice_index file first_slot ≡ 1
  pub number : slot_number first_slot file ≡ 1
  pub holds : (wide : Bool) → HasNarrowPoints wide state.points → retained_at wide first_slot file ≡ state
  pub zeros : (place : ℕ) → IsBesideSlot place → slice_index file place ≡ 0

-- an empty file became a new one
pub record BecomesNew (digest : List ℕ) (state : Retained) (old new : List ℕ) : Type 0 where
  pub empty : length old ≡ 0
  pub made : IsNewFile digest state new

-- there is one new file of a site and a state
abbrev pub OneNewFile : Type 0
OneNewFile =
    (digest : List ℕ) (state : Retained) (file other : List ℕ)
    → IsNewFile digest state file → IsNewFile digest state other → file ≡ other
