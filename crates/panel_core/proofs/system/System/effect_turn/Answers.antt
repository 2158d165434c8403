use Rattle.std.proofs.Common.{arith}
use Rattle.hold_calls.specs.Told.{told_in_ring}
use Rattle.panel_parts.specs.Applied.{applied}
use Rattle.panel_parts.proofs.Panels.{after_effect}
use Rattle.panel_core.proofs.PartTurns.{parts_here, place_there, ring_there, system_after}
use Rattle.panel_core.proofs.system.System.effect_turn.Goals as goal

pub overflow_sub-panel : goal.overflow_sub-panel
overflow_sub-panel g c = c.requires.member.0

pub index_mut-parts-requires : goal.index_mut-parts-requires
index_mut-parts-requires g c = let there = place_there c.requires in omega (arith, there)

pub turn_by_words-requires : goal.turn_by_words-requires
turn_by_words-requires g c = ring_there c.requires

pub returns-clause-turn : goal.returns-clause-turn
returns-clause-turn g c site kept before h run =
    let done = applied site kept before in
    let parts = c.index_mut-parts.result.now in
    let stands = parts_here c.requires h parts c.index_mut-parts.ensures.value in
    system_after c.requires h (λ e. cc) (λ e. cc) _
    (after_effect site kept done (told_in_ring site kept done c.args.panel) c.args.panel before parts c.turn_by_words.new.self stands
    (c.turn_by_words.ensures.stands site kept done before h.plan.is h.ring stands.effects))

pub returns-clause-steps : goal.returns-clause-steps
returns-clause-steps g c site kept before h =
    let done = applied site kept before in
    let stands = parts_here c.requires h c.index_mut-parts.result.now c.index_mut-parts.ensures.value in
    c.turn_by_words.ensures.steps site kept done before h.plan.is h.ring stands.effects
