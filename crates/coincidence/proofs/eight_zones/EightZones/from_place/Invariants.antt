use Rattle.std.proofs.Common.{ℕ, ◌+◌, ◌<◌, if◌then◌else◌}
use Rattle.site_types.specs.Bits.{has_bit}
use Rattle.coincidence.specs.ZoneMasks.{IsMaskAt}
use Rattle.coincidence.proofs.eight_zones.EightZones.from_place.Given as goal

abbrev pub invariant-loop-k : goal.invariant-loop-k
invariant-loop-k l =
    (j : ℕ) → j < l.k → IsMaskAt l.points l.zones (l.first + j) (if has_bit l.others j then l.other else l.own)
