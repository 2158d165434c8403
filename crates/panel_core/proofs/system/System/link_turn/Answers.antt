use Rattle.std.proofs.Common.{◌∙◌, arith}
use Rattle.hold_calls.specs.Turns.{ring_turns}
use Rattle.hold_calls.proofs.WordsHeld.{word_held}
use Rattle.panel_bridges.proofs.RingStates.{took_same}
use Rattle.panel_parts.specs.Applied.{applied}
use Rattle.panel_core.proofs.PartTurns.{member_here, parts_here, place_there, ring_there}
use Rattle.panel_core.proofs.Whole.{stands_after_link}
use Rattle.panel_core.proofs.system.System.link_turn.Goals as goal

pub overflow_sub-panel : goal.overflow_sub-panel
overflow_sub-panel c = c.requires.member.0

pub index-requires : goal.index-requires
index-requires c = let there = place_there c.requires in omega (arith, there)

pub telling_turn-requires : goal.telling_turn-requires
telling_turn-requires c = ring_there c.requires

pub returns-clause-turn : goal.returns-clause-turn
returns-clause-turn c site kept before h run =
    let panel = c.args.panel in
    let done = applied site kept before in
    let here = member_here c.requires h in
    let parts = parts_here c.requires h c.index.result.now c.index.ensures in
    let word = c.word-word.ensures site kept panel done (ring_turns site kept done panel before) parts.holds
    ∙ word_held site kept done panel before h.valid here run.0 in
    stands_after_link site kept before c.args.self.now panel c.telling_turn.new.self h
    (took_same site.panels panel _ c.telling_turn.new.self _ _ _ _ h.tick word (c.telling_turn.ensures.stands site.panels _ h.ring))
