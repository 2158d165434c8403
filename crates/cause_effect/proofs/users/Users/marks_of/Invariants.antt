use Rattle.std.proofs.Common.{◌≡◌, ℕ}
use Rattle.marker_table.specs.Equations.{values_of}
use Rattle.cause_effect.proofs.Marking.{uses_panel}
use Rattle.site_types.specs.Bits.{any_below}
use Rattle.cause_effect.proofs.users.Users.marks_of.Given as goal

abbrev pub invariant-loop-panel : goal.invariant-loop-panel
invariant-loop-panel l = (m : ℕ) → values_of l.marks m ≡ any_below l.panel (uses_panel l.self.sets l.before l.after m)
