use Rattle.std.proofs.Common.{◌≡◌, ◌<◌, ℕ, [], length, slice_index_or}
use Rattle.cause_effect.specs.Requests.{outputs_of}
use Rattle.cause_effect.proofs.compiled.outputs_by_panel.Given as goal

abbrev pub invariant-loop-panel : goal.invariant-loop-panel
invariant-loop-panel l = record {
  count : length l.lists.items ≡ l.panel;
  lists : (panel : ℕ) → panel < l.panel → slice_index_or l.lists.items panel [] ≡ outputs_of panel l.site.outputs;
}
