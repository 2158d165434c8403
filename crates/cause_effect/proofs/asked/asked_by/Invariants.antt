use Rattle.std.proofs.Common.{◌≡◌, ◌<◌, ◌+◌, ◌^◌, ℕ, take}
use Rattle.std.specs.List.{list_any}
use Rattle.site_types.specs.Bits.{has_bit}
use Rattle.marker_table.specs.Equations.{values_of}
use Rattle.cause_effect.specs.Requests.{asks_among}
use Rattle.cause_effect.proofs.asked.asked_by.Given as goal

abbrev pub invariant-loop-output : goal.invariant-loop-output
invariant-loop-output l = record {
  fits : l.asked < 2 ^ 32;
  asked : (bit : ℕ) → bit < 32
      → has_bit l.asked bit ≡ list_any (asks_among (values_of l.values) (bit + 1)) (take l.output-index l.outputs);
}
