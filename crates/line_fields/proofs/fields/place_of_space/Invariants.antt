use Rattle.std.proofs.Common.{◌≡◌, ℕ, ◌<◌, get_or}
use Rattle.line_fields.proofs.fields.place_of_space.Given as goal

-- no space so far
abbrev pub invariant-loop-place : goal.invariant-loop-place
invariant-loop-place l = (j : ℕ) → j < l.place → get_or l.text j 0 ≡ 32 → ⊥
