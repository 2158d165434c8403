use Rattle.std.proofs.Common.{◌≡◌, ◌||◌, ◌&&◌, ℕ, length, take}
use Rattle.std.specs.List.{list_any}
use Rattle.marker_table.specs.Equations.{values_of}
use Rattle.cause_effect.specs.Users.{looks_at, is_user}
use Rattle.cause_effect.proofs.users_found.add_terms.Given as goal

abbrev pub invariant-loop-term : goal.invariant-loop-term
invariant-loop-term l = record {
  size : length l.sets ≡ 776;
  users : (place m : ℕ)
      → is_user l.sets place m ≡ (is_user l.initial.sets place m || (values_of l.own m && list_any (looks_at l.site place) (take l.term-index l.terms)));
}
