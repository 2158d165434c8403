use Rattle.std.proofs.Common.{◌≡◌, ◌<◌, ◌==◌, ◌&&◌, ℕ, false, slice_index_or, length}
use Rattle.std.specs.List.{list_any, range_with_len}
use Rattle.site_types.specs.declared.loop_plan.LoopPlan.{LoopPlan}
use Rattle.isolators.specs.Reach.{Cable, is_short}
use Rattle.site_types.specs.Sections.{section_of_piece}
use Rattle.isolators.specs.Stands.{Cables}
use Rattle.isolators.proofs.loop_line.LoopLine.shorted_sections.Given as goal

abbrev pub invariant-loop-piece : goal.invariant-loop-piece
invariant-loop-piece l = record {
  size : length l.shorted ≡ 256;
  known : (plan : LoopPlan) (cable : Cable) → Cables plan cable l.self → (place : ℕ) → place < 256
      → slice_index_or l.shorted place false ≡ list_any (λ piece. is_short (cable piece) && (section_of_piece plan.isolators piece == place))
      (range_with_len 0 l.piece);
}
