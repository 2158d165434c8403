use Rattle.std.proofs.Common.{◌≡◌}
use Rattle.std.specs.List.{list_any, range_with_len}
use Rattle.site_types.specs.declared.loop_plan.LoopPlan.{LoopPlan}
use Rattle.isolators.specs.Reach.{Cable, is_open, is_short}
use Rattle.isolators.specs.Stands.{Cables}
use Rattle.isolators.proofs.loop_line.LoopLine.faults.Given as goal

abbrev pub invariant-loop-piece : goal.invariant-loop-piece
invariant-loop-piece l = (plan : LoopPlan) (cable : Cable) → Cables plan cable l.self
    → (l.broken ≡ list_any (λ piece. is_open (cable piece)) (range_with_len 0 l.piece))
    × (l.shorted ≡ list_any (λ piece. is_short (cable piece)) (range_with_len 0 l.piece))
