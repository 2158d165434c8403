-- Runs of items, and the lists that they stand for.
use Rattle.std.specs.Prelude.{◌≡◌, ◌-◌, ◌+◌, ◌≤◌, ℕ, List, All, length, map, min}
use Rattle.std.specs.List.{flat_map, range_with_len}
use Rattle.answer_lanes.specs.declared.run.Run.{Run}

module _ {S : Type 0} where
  -- the first items of a run, at most so many
  abbrev pub front_of : ℕ → Run S → Run S
  front_of most run = record { first = run.first; taken = run.taken; count = min run.count most }

  -- what is left of a run behind so many items
  abbrev pub rest_of : ℕ → Run S → Run S
  rest_of items run = record { first = run.first; taken = run.taken + items; count = run.count - items }

  -- the items of a run, those taken before and those left, are few enough to be counted in one byte
  abbrev pub HasShortCount : Run S → Type 0
  HasShortCount run = run.taken + run.count ≤ 255

  -- a run holds something
  pub record HoldsItems (run : Run S) : Type 0 where
    pub some : 1 ≤ run.count
    pub is : HasShortCount run

-- where the item at a place of what stands in a run is this
module _ {S T : Type 0} (item_at : S → ℕ → T) where
  -- the items of a run
  abbrev pub items_of : Run S → List T
  items_of run = map (item_at run.first) (range_with_len run.taken run.count)

  -- the items of runs, one run after the other
  abbrev pub all_items : List (Run S) → List T
  all_items runs = flat_map items_of runs

  -- what a lane keeps of its runs: so many items were put and taken, each run holds something, and there is room for
  -- as many as the lane may hold items
  pub record AreInLane (runs : List (Run S)) (put taken capacity room : ℕ) : Type 0 where
    pub counts : put ≡ taken + length (all_items runs)
    pub few : length (all_items runs) ≤ capacity
    pub held : All HoldsItems runs
    pub enough : capacity ≤ room
