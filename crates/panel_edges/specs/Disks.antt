-- What a call does to the bytes of a disk, place by place.
use Rattle.std.specs.Prelude.{◌≡◌, ◌⊎◌, ℕ, ◌+◌, ◌<◌, ◌≤◌, max, List, length, slice_index, Option, Some, None}

-- What a torn write of n bytes at a place leaves: any bytes in its range and behind the old end, and all
-- other bytes as they were. The file ends at the old end, or at most at the end of the range where that is
-- later.
pub record Torn (at n : ℕ) (old new : List ℕ) : Type 0 where
  pub no_shorter : length old ≤ length new
  pub no_longer : length new ≤ max (length old) (at + n)
  pub same : (i : ℕ) → i < length old → (i < at) ⊎ (at + n ≤ i) → slice_index new i ≡ slice_index old i

-- What a write of these bytes at a place leaves: the bytes stand in its range, and all other bytes as they
-- were. The file ends where it ended, or at the end of the range where that is later.
pub record Holds (at : ℕ) (bytes old new : List ℕ) : Type 0 where
  pub size : length new ≡ max (length old) (at + length bytes)
  pub inside : (i : ℕ) → i < length bytes → slice_index new (at + i) ≡ slice_index bytes i
  pub same : (i : ℕ) → i < length old → (i < at) ⊎ (at + length bytes ≤ i)
      → slice_index new i ≡ slice_index old i

-- Bytes that are told go on being told, and came from the old ones by a step. Nothing is said where nothing
-- was told.
abbrev pub Becomes : (List ℕ → List ℕ → Type 0) → Option (List ℕ) → Option (List ℕ) → Type 0
Becomes step None new = Unit {0}
Becomes step (Some old) None = ⊥
Becomes step (Some old) (Some new) = step old new
