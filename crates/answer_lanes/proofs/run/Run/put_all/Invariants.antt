use Rattle.std.proofs.Common.{◌≡◌, ◌-◌, ◌+◌, ◌≤◌, ◌++◌, map}
use Rattle.std.specs.List.{range_with_len}
use Rattle.answer_lanes.proofs.run.Run.put_all.Given as goal

-- the items before this place were put
abbrev pub invariant-loop-place : goal.invariant-loop-place
invariant-loop-place g l = record {
  put : l.into.items ≡ l.initial.into.items ++ map (g.S.Several.item_at l.fn.self.first) (range_with_len l.fn.self.taken (l.place - l.fn.self.taken));
  within : l.place ≤ l.fn.self.taken + l.fn.self.count;
}
