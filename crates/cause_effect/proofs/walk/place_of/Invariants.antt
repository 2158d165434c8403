use Rattle.std.proofs.Common.{◌≡◌, false, take}
use Rattle.cause_effect.specs.Cycles.{is_among}
use Rattle.cause_effect.proofs.walk.place_of.Given as goal

abbrev pub invariant-loop-place : goal.invariant-loop-place
invariant-loop-place l = is_among l.marker (take l.place l.path) ≡ false
