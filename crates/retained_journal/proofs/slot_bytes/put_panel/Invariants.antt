use Rattle.std.proofs.Common.{◌≡◌, ◌+◌, ◌*◌, ◌<◌, ℕ, [], Bool, get_or}
use Rattle.retained_journal.specs.Slots.{HasNarrowLoops, SameButLoops, loop_at}
use Rattle.retained_journal.proofs.slot_bytes.put_panel.Given as goal

abbrev pub invariant-loop-line : goal.invariant-loop-line
invariant-loop-line l = record {
  written : (wide : Bool) → HasNarrowLoops wide l.loops → (k : ℕ) → k < l.line → get_or l.loops k [] ≡ loop_at wide 0 (4 * l.panel + k) l.slot;
  others : SameButLoops (4 * l.panel) 4 l.initial.slot l.slot;
}
