-- What is made of sets of points: one point put in or taken out, and two sets joined or parted.
use Rattle.std.specs.Prelude.{ℕ, Bool, true, List, [], ◌∷◌, Option, Some, None, slice_index, slice_index_or}
use Rattle.std.specs.Prelude.{bit_or, bit_and, ◌&&◌, ◌==◌, nat_le, if◌then◌else◌}
use Rattle.std.specs.Int.{w128, bit_not}
use Rattle.site_types.specs.declared.point.Point.{Point}
use Rattle.site_types.specs.declared.point_set.PointSet.{PointSet}
use Rattle.site_types.specs.Bits.{with_point}
use Rattle.panel_conditions.specs.declared.loop_address.LoopAddress.{LoopAddress}

-- the loop and address of a point, if it is of the panel
abbrev pub loop_address : ℕ → Point → Option LoopAddress
loop_address panel p = if p.panel == panel then Some (record { line = p.line; address = p.address }) else None

-- the address, if the place has one
abbrev pub address_in : Option (Option LoopAddress) → Option LoopAddress
address_in None = None
address_in (Some address) = address

-- a set has a place for the address
abbrev pub is_place : LoopAddress → Bool
is_place at = (nat_le 1 at.line && nat_le at.line 4) && (nat_le 1 at.address && nat_le at.address 192)

-- the set with the point of an address put in or taken out
abbrev pub put_at : Option LoopAddress → Bool → PointSet → PointSet
put_at None on set = set
put_at (Some at) on set = if is_place at then with_point set at.line at.address on else set

-- the two numbers of a loop with the points of either
abbrev pub either_line : List ℕ → List ℕ → List ℕ
either_line a b = bit_or (slice_index a 0) (slice_index b 0) ∷ bit_or (slice_index a 1) (slice_index b 1) ∷ []

-- the two numbers of a loop with the points of a first set that aren't in a second one
abbrev pub line_without : List ℕ → List ℕ → List ℕ
line_without a b = bit_and (slice_index a 0) (bit_not w128 (slice_index b 0))
    ∷ bit_and (slice_index a 1) (bit_not w128 (slice_index b 1)) ∷ []

-- the two numbers of a loop, counted from 0
abbrev pub line_in : PointSet → ℕ → List ℕ
line_in set line = slice_index_or set.loops line []

-- the points of either set
abbrev pub either_set : PointSet → PointSet → PointSet
either_set a b =
    record {
      loops =
          either_line (line_in a 0) (line_in b 0)
          ∷ either_line (line_in a 1) (line_in b 1)
          ∷ either_line (line_in a 2) (line_in b 2)
          ∷ either_line (line_in a 3) (line_in b 3)
          ∷ [];
    }

-- the points of the first set that aren't in the second
abbrev pub set_without : PointSet → PointSet → PointSet
set_without a b =
    record {
      loops =
          line_without (line_in a 0) (line_in b 0)
          ∷ line_without (line_in a 1) (line_in b 1)
          ∷ line_without (line_in a 2) (line_in b 2)
          ∷ line_without (line_in a 3) (line_in b 3)
          ∷ [];
    }

-- the set with all points of another one put in or taken out; it stays where there is no other
abbrev pub put_all : Option PointSet → Bool → PointSet → PointSet
put_all None on set = set
put_all (Some points) on set = if on then either_set set points else set_without set points

-- the set at one place gets the point of an address, each other one stays
abbrev pub put_at_place : ℕ → Option LoopAddress → ℕ → PointSet → PointSet
put_at_place place address other set = if place == other then put_at address true set else set
