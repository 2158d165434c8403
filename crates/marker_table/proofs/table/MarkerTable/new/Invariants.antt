use Rattle.std.proofs.Common.{take}
use Rattle.marker_table.specs.Table.{AreRowsOf}
use Rattle.marker_table.proofs.table.MarkerTable.new.Given as goal

abbrev pub invariant-loop-marker : goal.invariant-loop-marker
invariant-loop-marker l = AreRowsOf l.site (take l.marker-index l.site.markers) l.rows.items
