-- Blocks of four eights whose places in a set are kept in one word each.
use Rattle.std.specs.Prelude.{◌≡◌, ◌≢◌, ◌+◌, ◌/◌, ◌%◌, ◌<◌, ℕ, List, Some, slice_get, slice_index}
use Rattle.answer_lanes.specs.declared.known_block.KnownBlock.{KnownBlock}
use Rattle.answer_lanes.specs.declared.place_set.PlaceSet.{PlaceSet}
use Rattle.answer_lanes.specs.Words.{AreEights}

-- the number of a place that stands in no known block
abbrev pub in_none : ℕ
in_none = 255

-- one of the 32 places of a block, counted from 0, where each of its eights begins so
abbrev pub place_in : List ℕ → ℕ → ℕ
place_in firsts k = slice_index firsts (k / 8) + k % 8

-- the word of each known block tells which of its places the set has
abbrev pub KeepWords : PlaceSet → List KnownBlock → Type 0
KeepWords set blocks =
    (n : ℕ) (block : KnownBlock) → slice_get blocks n ≡ Some block → AreEights set block.firsts block.word

-- each place of a known block has the number of that block
abbrev pub HaveNumbers : List ℕ → List KnownBlock → Type 0
HaveNumbers numbers blocks =
    (n : ℕ) (block : KnownBlock) → slice_get blocks n ≡ Some block
    → (k : ℕ) → k < 32 → slice_get numbers (place_in block.firsts k) ≡ Some n

-- no place of a block stands in a known one
abbrev pub AreFree : List ℕ → List ℕ → Type 0
AreFree numbers firsts = (k : ℕ) → k < 32 → slice_get numbers (place_in firsts k) ≡ Some in_none

-- the places of a block got its number, and those of known blocks kept theirs
pub record TakesPlaces (firsts : List ℕ) (number : ℕ) (old numbers : List ℕ) : Type 0 where
  pub own : (k : ℕ) → k < 32 → slice_get numbers (place_in firsts k) ≡ Some number
  pub others : (place n : ℕ) → n ≢ in_none → slice_get old place ≡ Some n → slice_get numbers place ≡ Some n

-- a known block begins as the one at a place of a list
pub record HasFirstsOf (block : KnownBlock) (n : ℕ) (blocks : List KnownBlock) : Type 0 where
  pub other : KnownBlock
  pub there : slice_get blocks n ≡ Some other
  pub same : block.firsts ≡ other.firsts

-- blocks stand at the same places, and none of their places is in the set
pub record ForgetsWords (old blocks : List KnownBlock) : Type 0 where
  pub none : (n : ℕ) (block : KnownBlock) → slice_get blocks n ≡ Some block → block.word ≡ 0
  pub firsts : (n : ℕ) (block : KnownBlock) → slice_get blocks n ≡ Some block → HasFirstsOf block n old
