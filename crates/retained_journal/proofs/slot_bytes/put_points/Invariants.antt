use Rattle.std.proofs.Common.{◌≡◌, ◌<◌, ℕ, Bool, get_or}
use Rattle.site_types.specs.Done.{no_points}
use Rattle.retained_journal.specs.Slots.{HasNarrowPoints, SameButLoops, panel_points}
use Rattle.retained_journal.proofs.slot_bytes.put_points.Given as goal

abbrev pub invariant-loop-panel : goal.invariant-loop-panel
invariant-loop-panel l = record {
  written : (wide : Bool) → HasNarrowPoints wide l.points → (k : ℕ) → k < l.panel → get_or l.points k no_points ≡ panel_points wide 0 k l.slot;
  others : SameButLoops 0 32 l.initial.slot l.slot;
}
