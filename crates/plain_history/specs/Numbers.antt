-- Masks of the numbers of things that pass a test.
use Rattle.std.specs.Prelude.{◌≡◌, ◌≤◌, ◌<◌, ◌+◌, ℕ, Bool, [], ◌∷◌}
use Rattle.site_types.specs.Bits.{mask_of}
use Rattle.site_types.specs.declared.point_set.PointSet.{PointSet}

-- whatever is told of each number from a first on, and of so many, is what a test says
abbrev pub TellsEach : ℕ → ℕ → (ℕ → Bool → Type 0) → (ℕ → Bool) → Type 0
TellsEach first count tells test =
    (number : ℕ) (told : Bool) → first ≤ number → number < first + count → tells number told → told ≡ test number

-- the mask has of the numbers 1 to 32 those of which it is told
abbrev pub TellsNumbers : (ℕ → Bool → Type 0) → ℕ → Type 0
TellsNumbers tells mask = (test : ℕ → Bool) → TellsEach 1 32 tells test → mask ≡ mask_of 32 (λ k. test (k + 1))

-- the mask has of the 96 addresses that come after so many those of which it is told
abbrev pub TellsAddresses : ℕ → (ℕ → Bool → Type 0) → ℕ → Type 0
TellsAddresses past tells mask =
    (test : ℕ → Bool) → TellsEach (past + 1) 96 tells test → mask ≡ mask_of 96 (λ k. test (past + k + 1))

-- a mask for each half of each line of a panel makes a set of points
abbrev pub set_of_halves : (ℕ → ℕ → ℕ) → PointSet
set_of_halves mask =
    record {
      loops =
          (mask 1 0 ∷ mask 1 96 ∷ []) ∷ (mask 2 0 ∷ mask 2 96 ∷ []) ∷ (mask 3 0 ∷ mask 3 96 ∷ [])
          ∷ (mask 4 0 ∷ mask 4 96 ∷ []) ∷ [];
    }

-- the set is made of the masks that are told, by line and by how many addresses come before
abbrev pub TellsHalves : (ℕ → ℕ → ℕ → Type 0) → PointSet → Type 0
TellsHalves tells set =
    (mask : ℕ → ℕ → ℕ) → ((line past told : ℕ) → past ≤ 96 → tells line past told → told ≡ mask line past)
    → set ≡ set_of_halves mask
