use Rattle.std.proofs.Common.{◌≡◌, ◌<◌, ℕ, length, get_or}
use Rattle.site_types.specs.declared.point_set.PointSet.{PointSet}
use Rattle.retained_journal.specs.Slots.{panel_points}
use Rattle.retained_journal.proofs.slots.read_points.Given as goal

abbrev pub invariant-loop-panel : goal.invariant-loop-panel
invariant-loop-panel l = (length l.points ≡ 8) × ((d : PointSet) (k : ℕ) → k < l.panel → get_or l.points k d ≡ panel_points l.wide l.at k l.bytes)
