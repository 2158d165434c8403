use Rattle.std.proofs.Common.{take}
use Rattle.panel_audit.specs.Numbers.{AreZoneNumbers}
use Rattle.panel_audit.proofs.numbers.zone_numbers.Given as goal

-- those before a place were numbered
abbrev pub invariant-loop-place : goal.invariant-loop-place
invariant-loop-place l = AreZoneNumbers (take l.place l.site.zones) l.things.items
