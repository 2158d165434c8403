use Rattle.std.proofs.Common.{◌≡◌, ◌++◌, take}
use Rattle.marker_table.specs.Equations.{values_of}
use Rattle.site_commands.specs.Matrix.{names_asked}
use Rattle.site_commands.proofs.matrix.push_names.Given as goal

abbrev pub invariant-loop-output : goal.invariant-loop-output
invariant-loop-output l = l.text.items ≡ l.initial.text.items ++ names_asked (values_of l.values) (take l.output-index l.outputs)
