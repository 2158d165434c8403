-- The blocks in which a panel's points are asked.
use Rattle.std.specs.Prelude.{◌≡◌, ◌+◌, ◌/◌, ◌%◌, ◌<◌, ℕ, List, Some, slice_get}
use Rattle.site_types.specs.declared.point.Point.{Point}
use Rattle.answer_lanes.specs.Known.{place_in}

-- a point is the one of a panel's four loops at the eight addresses from one on that is asked as this one of 32,
-- counted from 0
pub record IsAsked (panel from k : ℕ) (point : Point) : Type 0 where
  pub panel_is : point.panel ≡ panel
  pub line_is : point.line ≡ k / 8 + 1
  pub address_is : point.address ≡ from + k % 8

-- what stands at a place is asked so
pub record HasAsked (points : List Point) (panel from k place : ℕ) : Type 0 where
  pub point : Point
  pub there : slice_get points place ≡ Some point
  pub asked : IsAsked panel from k point

-- the places of a block are those of a panel's points at some eight addresses of its four loops
pub record IsBlockOf (points : List Point) (panel : ℕ) (firsts : List ℕ) : Type 0 where
  pub from : ℕ
  pub all : (k : ℕ) → k < 32 → HasAsked points panel from k (place_in firsts k)
