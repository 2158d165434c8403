use Rattle.std.proofs.Common.{◌≡◌}
use Rattle.panel_conditions.specs.Stands.{are_first_watches}
use Rattle.panel_conditions.proofs.zones.Zones.new.Given as goal

abbrev pub invariant-loop-bit : goal.invariant-loop-bit
invariant-loop-bit l = l.watches.items ≡ are_first_watches l.site l.panel l.bit
