use Rattle.hold_calls.specs.Turns.{hold_turns}
use Rattle.node_rules.specs.Histories.{befallen}
use Rattle.panel_parts.specs.Applied.{applied}
use Rattle.panel_node.specs.Told.{told_by_frames}
use Rattle.panel_node.proofs.OwnTurns.{link_turned}
use Rattle.panel_node.proofs.node.Node.link_turn.Goals as goal

pub returns-clause-turn : goal.returns-clause-turn
returns-clause-turn c site panel kept history h run =
    let before = befallen history in
    let done = applied site kept before in
    link_turned site panel kept history c.args.self.now h c.word-word.result c.keep_own.new.self
    (c.word-word.ensures site kept panel done (hold_turns site kept done (told_by_frames site kept done panel history) panel before) h.parts.holds) run.0
    c.keep_own.ensures
