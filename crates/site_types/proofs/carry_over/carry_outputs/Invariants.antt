use Rattle.std.proofs.Common.{◌≡◌, true, take, map}
use Rattle.std.specs.List.{filter}
use Rattle.site_types.specs.declared.output.Output.{Output as OutputPlan}
use Rattle.site_types.specs.declared.change.Change.TheVariants.{Output}
use Rattle.site_types.specs.Carry.{output_was_off}
use Rattle.site_types.specs.Changes.{changed_by}
use Rattle.site_types.proofs.carry_over.carry_outputs.Given as goal

abbrev pub invariant-loop-output : goal.invariant-loop-output
invariant-loop-output l =
    l.kept
    ≡ changed_by
    (map (λ (x : OutputPlan). Output x.panel x.number true)
    (filter (λ (x : OutputPlan). output_was_off l.old l.state x.name.bytes) (take l.output-index l.new.outputs))) l.initial.kept
