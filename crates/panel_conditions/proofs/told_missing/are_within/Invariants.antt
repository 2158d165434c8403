use Rattle.std.proofs.Common.{◌+◌, ◌<◌, ◌≤◌, ℕ, slice_index}
use Rattle.panel_conditions.proofs.told_missing.are_within.Given as goal

abbrev pub invariant-loop-first : goal.invariant-loop-first
invariant-loop-first l = (number : ℕ) → number < l.first-index → slice_index l.firsts number + 8 ≤ l.count
