use Rattle.std.proofs.Common.{◌≡◌, take}
use Rattle.cause_effect.specs.Requests.{outputs_of}
use Rattle.cause_effect.proofs.compiled.outputs_of_panel.Given as goal

abbrev pub invariant-loop-output : goal.invariant-loop-output
invariant-loop-output l = l.own.items ≡ outputs_of l.panel (take l.output-index l.outputs)
