use Rattle.std.proofs.Common.{◌≡◌, ◌<◌, ℕ, true}
use Rattle.site_types.specs.declared.loop_plan.LoopPlan.{LoopPlan}
use Rattle.isolators.specs.Reach.{Cable, is_passed}
use Rattle.isolators.specs.Stands.{Cables, HoldShorts}
use Rattle.isolators.proofs.loop_line.LoopLine.pieces_ahead.Given as goal

abbrev pub invariant-loop-piece : goal.invariant-loop-piece
invariant-loop-piece l = (plan : LoopPlan) (cable : Cable) → Cables plan cable l.self → HoldShorts plan cable l.self.shorted → (piece : ℕ)
    → piece < l.piece → is_passed plan cable piece ≡ true
