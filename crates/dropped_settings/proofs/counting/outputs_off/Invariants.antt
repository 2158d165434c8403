use Rattle.std.proofs.Common.{◌≡◌, ◌≤◌, Some, take}
use Rattle.std.specs.Prelude.{count_by}
use Rattle.site_types.specs.declared.output.Output.{Output}
use Rattle.site_types.specs.Done.{kept_output}
use Rattle.dropped_settings.proofs.counting.outputs_off.Given as goal

abbrev pub invariant-loop-output : goal.invariant-loop-output
invariant-loop-output l = record {
  counted : l.count ≡ count_by (λ (x : Output). kept_output l.kept (Some x)) (take l.output-index l.site.outputs);
  few : l.count ≤ l.output-index;
}
