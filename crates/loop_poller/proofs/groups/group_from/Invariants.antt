use Rattle.std.proofs.Common.{◌≡◌, ◌-◌, ◌≤◌, None, slice_index_or}
use Rattle.std.specs.List.{filter_map, range_with_len}
use Rattle.loop_poller.proofs.groups.group_from.Given as goal

abbrev pub invariant-loop-address : goal.invariant-loop-address
invariant-loop-address l = record {
  few : l.count ≤ l.address - l.first;
  follow : filter_map (λ address. slice_index_or l.points (address - 1) None) (range_with_len l.first (l.address - l.first))
      ≡ range_with_len l.begin l.count;
}
