use Rattle.std.proofs.Common.{◌≡◌, map, take, sum_by, count_by}
use Rattle.marker_table.specs.declared.readings.Readings.{Readings}
use Rattle.marker_table.specs.Table.{count_in, input_of, reads}
use Rattle.marker_table.proofs.row.Row.of.Given as goal

abbrev pub invariant-loop-term : goal.invariant-loop-term
invariant-loop-term l = (readings : Readings)
    → sum_by (count_in readings) l.masks.items ≡ count_by (reads readings) (map (input_of l.site) (take l.term-index l.marker.terms))
