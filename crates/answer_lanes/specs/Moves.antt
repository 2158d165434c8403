-- How items are moved out of a lane.
use Rattle.std.specs.Prelude.{◌≡◌, ◌≤◌, ℕ, List, All, drop, length, take}
use Rattle.tick_units.specs.Lane.{LaneState, turn_count}
use Rattle.answer_lanes.specs.Runs.{HoldsItems, all_items}
use Rattle.answer_lanes.specs.declared.run.Run.{Run}

module _ {S T : Type 0} (item_at : S → ℕ → T) where
  -- so many items may be moved out of runs
  pub record MayMove (count : ℕ) (runs : List (Run S)) : Type 0 where
    pub enough : count ≤ length (all_items item_at runs)
    pub held : All HoldsItems runs

  -- so many items were moved out of the runs, and the others are left
  pub record MovesItems (count : ℕ) (runs moved left : List (Run S)) : Type 0 where
    pub first : all_items item_at moved ≡ take count (all_items item_at runs)
    pub behind_them : all_items item_at left ≡ drop count (all_items item_at runs)
    pub held : All HoldsItems moved
    pub left_held : All HoldsItems left

  -- the first runs of a list, of which there are so many, hold so many items together, and no more than may be moved
  pub record AreWhole (most : ℕ) (runs : List (Run S)) (count items : ℕ) : Type 0 where
    pub within : count ≤ length runs
    pub hold : items ≡ length (all_items item_at (take count runs))
    pub few : items ≤ most

  -- so many items were taken out of the runs, and the others are left
  pub record PassesItems (count : ℕ) (runs left : List (Run S)) : Type 0 where
    pub behind_them : all_items item_at left ≡ drop count (all_items item_at runs)
    pub left_held : All HoldsItems left

  -- the runs hold what a turn moves out of a lane
  pub record AreOfTurn (lane : LaneState T) (runs : List (Run S)) : Type 0 where
    pub moved : all_items item_at runs ≡ take (turn_count lane) lane.items
    pub held : All HoldsItems runs
