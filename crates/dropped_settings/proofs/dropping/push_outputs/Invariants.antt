use Rattle.std.proofs.Common.{◌≡◌, ◌++◌, take}
use Rattle.dropped_settings.specs.Dropped.{output_lines}
use Rattle.dropped_settings.proofs.dropping.push_outputs.Given as goal

abbrev pub invariant-loop-output : goal.invariant-loop-output
invariant-loop-output l = l.text.items ≡ l.initial.text.items ++ output_lines l.new l.kept (take l.output-index l.old.outputs)
