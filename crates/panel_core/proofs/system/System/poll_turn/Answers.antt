use Rattle.std.proofs.Common.{arith}
use Rattle.panel_core.proofs.PartTurns.{made_by_parts, parts_may_turn, place_there}
use Rattle.panel_core.proofs.system.System.poll_turn.Goals as goal

pub overflow_sub-panel : goal.overflow_sub-panel
overflow_sub-panel c = c.requires.member.0

pub index_mut-parts-requires : goal.index_mut-parts-requires
index_mut-parts-requires c = let there = place_there c.requires in omega (arith, there)

pub poll_turn-requires : goal.poll_turn-requires
poll_turn-requires c = parts_may_turn c.requires c.index_mut-parts.result.now c.index_mut-parts.ensures.value

pub returns-clause-turn : goal.returns-clause-turn
returns-clause-turn c =
    made_by_parts c.requires c.index_mut-parts.result.now c.poll_turn.new.self c.index_mut-parts.ensures.value (λ e. cc) (λ e. cc) c.poll_turn.ensures
