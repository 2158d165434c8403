-- Groups of eight points of a panel's four loops, at the same addresses.
use Rattle.std.specs.Prelude.{◌≡◌, ◌+◌, ◌≤◌, ℕ, List, length, Option, Some, slice_get}
use Rattle.site_types.specs.declared.point_state.PointState.{PointState}
use Rattle.loop_poller.specs.declared.group.Group.{Group}
use Rattle.loop_poller.specs.declared.polled_line.PolledLine.{PolledLine}

-- a loop has a group of this number, with eight points
pub record IsWholeGroup (polled : PolledLine) (number : ℕ) (group : Group) : Type 0 where
  pub is : slice_get polled.groups.items number ≡ Some (Some group)
  pub whole : group.count ≡ 8

-- the loop at a place has a group of this number, with eight points
pub record HasWholeGroup (lines : List PolledLine) (place number : ℕ) (group : Group) : Type 0 where
  pub polled : PolledLine
  pub there : slice_get lines place ≡ Some polled
  pub has : IsWholeGroup polled number group

-- four loops have these groups of a number, one each in order, with eight points each
pub record HaveGroups (lines : List PolledLine) (number : ℕ) (groups : List Group) : Type 0 where
  pub size : length groups ≡ 4
  pub each : (place : ℕ) (group : Group) → slice_get groups place ≡ Some group → HasWholeGroup lines place number group

-- the groups of four loops that have eight points each, by number
abbrev pub AreBlocks : List PolledLine → List (Option (List Group)) → Type 0
AreBlocks lines blocks = (number : ℕ) (groups : List Group) → slice_get blocks number ≡ Some (Some groups)
    → HaveGroups lines number groups

-- a group has eight points, which are among these states
pub record IsWholeWithin (group : Group) (states : List PointState) : Type 0 where
  pub whole : group.count ≡ 8
  pub within : group.first + 8 ≤ length states
