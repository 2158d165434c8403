-- The bits of four eights in one word.
use Rattle.std.specs.Prelude.{◌≡◌, ◌+◌, ◌*◌, ◌<◌, ℕ, List, slice_index}
use Rattle.site_types.specs.Bits.{has_bit}
use Rattle.answer_lanes.specs.declared.place_set.PlaceSet.{PlaceSet}
use Rattle.answer_lanes.specs.Places.{has_place}

-- the bits of a word are those of four bytes, eight for each, the first byte's lowest
abbrev pub AreBitsOf : List ℕ → ℕ → Type 0
AreBitsOf bytes word =
    (number k : ℕ) → number < 4 → k < 8 → has_bit word (8 * number + k) ≡ has_bit (slice_index bytes number) k

-- the bits of a word are places of a set, eight from each of four places on
abbrev pub AreEights : PlaceSet → List ℕ → ℕ → Type 0
AreEights set firsts word =
    (number k : ℕ) → number < 4 → k < 8 → has_bit word (8 * number + k) ≡ has_place set (slice_index firsts number + k)
