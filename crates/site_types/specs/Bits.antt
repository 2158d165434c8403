-- Masks: numbers whose bits are tests, and sets of points made of them.
use Rattle.std.specs.Prelude.{◌≤◌, ◌+◌, ◌-◌, ◌*◌, ◌/◌, ◌%◌, ◌^◌, ◌==◌, ◌||◌, ℕ, zero, suc, Bool, false, [], replicate}
use Rattle.std.specs.Prelude.{slice_index, slice_index_or, slice_set, bit_or, bit_and, if◌then◌else◌}
use Rattle.std.specs.Int.{Width, w128, bit_at, bit_not}
use mir.Val.{bits}
use Rattle.site_types.specs.declared.point_set.PointSet.{PointSet}

-- whether bit k of a mask is set
abbrev pub has_bit : ℕ → ℕ → Bool
has_bit mask k = bit_at mask k == 1

-- the number whose bit k, for each k below n, is set exactly where the test holds
unfoldable pub mask_of : ℕ → (ℕ → Bool) → ℕ
mask_of zero test = 0
mask_of (suc n) test = mask_of n test + (if test n then 2 ^ n else 0)

-- some number below a bound passes the test
unfoldable pub any_below : ℕ → (ℕ → Bool) → Bool
any_below zero test = false
any_below (suc n) test = any_below n test || test n

-- the mask of a width with one bit set or cleared
abbrev pub with_bit : Width → ℕ → ℕ → Bool → ℕ
with_bit w mask k on =
    if on then bit_or mask (1 * 2 ^ k % 2 ^ bits w) else bit_and mask (bit_not w (1 * 2 ^ k % 2 ^ bits w))

-- a loop has two numbers: the half in which an address lies, and its bit there
abbrev pub half_of : ℕ → ℕ
half_of address = (address - 1) / 96

abbrev pub bit_of : ℕ → ℕ
bit_of address = (address - 1) % 96

-- a line of a panel and an address of a loop, which a set of points has a place for
abbrev pub IsPlace : ℕ → ℕ → Type 0
IsPlace line address = (1 ≤ line) × (line ≤ 4) × (1 ≤ address) × (address ≤ 192)

-- whether a set of points has the point of a line and an address
abbrev pub has_point : PointSet → ℕ → ℕ → Bool
has_point set line address =
    has_bit (slice_index (slice_index_or set.loops (line - 1) []) (half_of address)) (bit_of address)

-- the set without a point
abbrev pub no_set : PointSet
no_set = record { loops = replicate 4 (replicate 2 0) }

-- the set with one point put in or taken out
abbrev pub with_point : PointSet → ℕ → ℕ → Bool → PointSet
with_point set line address on =
    let halves = slice_index_or set.loops (line - 1) [] in
    record set {
      loops =
          slice_set set.loops (line - 1)
          (slice_set halves (half_of address)
          (with_bit w128 (slice_index halves (half_of address)) (bit_of address) on));
    }
