use Rattle.std.proofs.Common.{◌≡◌, ◌<◌, ◌+◌, ℕ, length}
use Rattle.std.specs.Prelude.{Some, slice_get}
use Rattle.due_zones.specs.declared.due_zones.DueZones.{DueZones}
use Rattle.due_zones.specs.Telling.{TellsDue}
use Rattle.due_zones.proofs.due_zones.due_at_each.Given as goal

abbrev pub invariant-loop-place : goal.invariant-loop-place
invariant-loop-place l =
    (length l.each ≡ 8)
    × ((place : ℕ) (due : DueZones) → place < l.place → slice_get l.each place ≡ Some due
    → TellsDue l.site l.joined l.now.0 l.signals (place + 1) due)
