use Rattle.std.proofs.Common.{◌≡◌}
use Rattle.site_commands.specs.Matrix.{lines_of_zones}
use Rattle.site_commands.proofs.Matrices.{values_at}
use Rattle.site_commands.proofs.matrix.matrix_of.Given as goal

abbrev pub invariant-loop-zone : goal.invariant-loop-zone
invariant-loop-zone l = l.text.items ≡ lines_of_zones l.site (values_at l.site) l.zone-index
