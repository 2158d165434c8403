use Rattle.std.proofs.Common.{◌≡◌, ◌+◌, take, sum_by}
use Rattle.marker_table.specs.Table.{count_in}
use Rattle.marker_table.proofs.row.Row.is_met.Given as goal

abbrev pub invariant-loop-mask : goal.invariant-loop-mask
invariant-loop-mask l = l.left + sum_by (count_in l.readings) (take l.mask-index l.self.masks) ≡ l.self.needed
