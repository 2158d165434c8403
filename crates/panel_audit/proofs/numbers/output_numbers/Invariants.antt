use Rattle.std.proofs.Common.{take}
use Rattle.panel_audit.specs.Numbers.{AreOutputNumbers}
use Rattle.panel_audit.proofs.numbers.output_numbers.Given as goal

-- those before a place were numbered
abbrev pub invariant-loop-place : goal.invariant-loop-place
invariant-loop-place l = AreOutputNumbers (take l.place l.site.outputs) l.things.items
