use Rattle.node_rules.specs.Histories.{befallen}
use Rattle.panel_parts.specs.Applied.{applied}
use Rattle.panel_node.specs.Told.{arrived}
use Rattle.panel_node.proofs.Elsewhere.{facts_told, words_framed}
use Rattle.panel_node.proofs.OwnTurns.{effect_turned, few_here}
use Rattle.panel_node.proofs.node.Node.effect_turn.Goals as goal

pub returns-clause-turn : goal.returns-clause-turn
returns-clause-turn g c site panel kept history h run =
    let done = applied site kept (befallen history) in
    let masks = c.facts_kept-facts.result in
    let few = few_here site panel kept history c.args.self.now h c.requires.may in
    effect_turned site panel kept history c.args.self.now h masks c.turn.new.self
    (facts_told site kept done panel history masks
    (c.facts_kept-facts.ensures site panel (arrived site kept done panel history) h.valid h.words
    (words_framed site kept done panel history h.parts.member run.0 few h.frames))) c.turn.ensures.stands
