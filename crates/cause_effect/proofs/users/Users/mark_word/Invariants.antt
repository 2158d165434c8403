use Rattle.std.proofs.Common.{◌≡◌, ◌<◌, ◌||◌, ◌^◌, ℕ}
use Rattle.marker_table.specs.Equations.{values_of}
use Rattle.cause_effect.specs.Users.{uses_word}
use Rattle.site_types.specs.Bits.{any_below}
use Rattle.cause_effect.proofs.Marking.{left_uses}
use Rattle.cause_effect.proofs.users.Users.mark_word.Given as goal

-- what is marked and the users of the bits that are left are all that are to be marked
abbrev pub invariant-loop-left : goal.invariant-loop-left
invariant-loop-left l = record {
  fits : l.left < 2 ^ 32;
  marked : (m : ℕ)
      → (values_of l.marks m || any_below 32 (left_uses l.self.sets l.first l.left m))
      ≡ (values_of l.initial.marks m || uses_word l.self.sets l.first l.before l.after m);
}

abbrev pub decreases-loop-left : goal.decreases-loop-left
decreases-loop-left l = l.left
