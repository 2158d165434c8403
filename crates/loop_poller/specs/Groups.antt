-- Points of a loop whose places in the site follow one another.
use Rattle.std.specs.Prelude.{◌≡◌, ◌≤◌, ◌+◌, ◌-◌, ◌*◌, ℕ, true, List, Option, Some, None}
use Rattle.std.specs.Prelude.{drop, length, map, min, slice_get, slice_index_or, take}
use Rattle.std.specs.List.{filter_map, range_with_len}
use Rattle.site_types.specs.declared.answer.Answer.{Answer}
use Rattle.site_types.specs.declared.point_state.PointState.{PointState}
use Rattle.site_types.specs.declared.point_state.PointState.TheVariants.{Quiet}
use Rattle.loop_poller.specs.declared.group.Group.{Group}
use Rattle.loop_poller.specs.Asked.{heard_of}

-- the points at eight addresses from this one on, in order of address
abbrev pub points_of_eight : List (Option ℕ) → ℕ → List ℕ
points_of_eight points first =
    filter_map (λ address. slice_index_or points (address - 1) None) (range_with_len first 8)

-- the points at eight addresses from a first one on are the points of a group, and follow one another
abbrev pub FollowFrom : List (Option ℕ) → ℕ → Group → Type 0
FollowFrom points first group = points_of_eight points first ≡ range_with_len group.first group.count

-- the groups of a loop, by number
abbrev pub AreGroups : List (Option ℕ) → List (Option Group) → Type 0
AreGroups points groups = (number : ℕ) (group : Group) → slice_get groups number ≡ Some (Some group)
    → FollowFrom points (8 * number + 1) group

-- what a point tells in a tick that lies so many places behind the first one of its group, is in this state, and is
-- reached
abbrev pub place_answer : ℕ → ℕ → PointState → ℕ → Answer
place_answer tick first state place = record {
  stamp = record { 0 = tick };
  point = min (first + place) 65535;
  heard = heard_of state true;
}

-- what points tell in a tick that follow one another from this one on, are in these states, and are reached
abbrev pub state_answers : ℕ → ℕ → List PointState → List Answer
state_answers tick first states =
    map (λ place. place_answer tick first (slice_index_or states place Quiet) place) (range_with_len 0 (length states))

-- the points of a group are among these states
abbrev pub IsWithin : Group → List PointState → Type 0
IsWithin group states = 1 ≤ group.count → group.first + group.count ≤ length states

-- what the points of a group tell, if all points of the site are in these states
abbrev pub group_answers : ℕ → Group → List PointState → List Answer
group_answers tick group states = state_answers tick group.first (take group.count (drop group.first states))
