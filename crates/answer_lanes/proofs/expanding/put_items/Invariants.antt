use Rattle.std.proofs.Common.{◌≡◌, ◌++◌, take}
use Rattle.answer_lanes.specs.Runs.{all_items}
use Rattle.answer_lanes.proofs.expanding.put_items.Given as goal

-- the items of the runs before this one were put
abbrev pub invariant-loop-run : goal.invariant-loop-run
invariant-loop-run g l = l.into.items ≡ l.initial.into.items ++ all_items g.S.Several.item_at (take l.run-index l.fn.runs)
