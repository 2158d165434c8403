use Rattle.std.proofs.Common.{◌≡◌, ℕ}
use Rattle.marker_table.specs.Equations.{values_of}
use Rattle.panel_rules.specs.Markers.{Facts, solved as solved_to}
use Rattle.panel_bridges.specs.FactMasks.{AreFacts}
use Rattle.plain_outputs.proofs.solved.solved.Given as goal

abbrev pub invariant-loop-round : goal.invariant-loop-round
invariant-loop-round l = (rules : Facts) → AreFacts l.site rules l.facts → (m : ℕ) → values_of l.values m ≡ solved_to l.site rules l._round m
