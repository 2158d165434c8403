-- What is known of the bytes of a stream, which may tell them (Some) or not (None).
use Rattle.std.specs.Prelude.{◌≡◌, ◌↔◌, ℕ, ◌≤◌, List, [], ◌++◌, length, take, Option, Some, None}
use Rattle.std.specs.Io.KnownBytes.{Consumes as TakesFromFront}

-- these bytes stood at the front of what was left, and the rest is left; nothing is said where nothing was
-- told
abbrev pub Consumes : Option (List ℕ) → Option (List ℕ) → List ℕ → Type 0
Consumes old new bytes = TakesFromFront old new bytes

-- what is told as written was told before, and these bytes came behind; nothing is said where nothing is told
-- any more
abbrev pub Grows : Option (List ℕ) → Option (List ℕ) → List ℕ → Type 0
Grows old None bytes = Unit {0}
Grows old (Some after) bytes = (before : List ℕ) × (old ≡ Some before) × (after ≡ before ++ bytes)

-- some front of these bytes came behind what was written
abbrev pub GrowsByFront : Option (List ℕ) → Option (List ℕ) → List ℕ → Type 0
GrowsByFront old new bytes = (front : List ℕ) × (rest : List ℕ) × (bytes ≡ front ++ rest)
    × Grows old new front

-- a read took the first bytes of what was left, as many as it answers, which is none only at the end
pub record HasTaken (old new into : List ℕ) (count : ℕ) : Type 0 where
  pub bound : count ≤ length into
  pub bytes : old ≡ take count into ++ new
  pub ends : (count ≡ 0) ↔ (old ≡ [])
