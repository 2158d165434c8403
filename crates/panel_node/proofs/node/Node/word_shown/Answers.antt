use Rattle.std.proofs.Common.{◌≢◌, ◌∙◌, sym}
use Rattle.hold_calls.specs.Turns.{hold_turns}
use Rattle.hold_calls.proofs.WordsHeld.{word_by_told}
use Rattle.node_rules.specs.Histories.{befallen}
use Rattle.panel_parts.specs.Applied.{applied}
use Rattle.panel_node.specs.Told.{arrived, told_by_frames}
use Rattle.panel_node.proofs.HandedNow.{word_now}
use Rattle.panel_node.proofs.Words.{word_handed}
use Rattle.panel_node.proofs.ZonesShown.{other_kept, other_shown, own_shown}
use Rattle.panel_node.proofs.node.Node.word_shown.Goals as goal

pub returns-then-source-self : goal.returns-then-source-self
returns-then-source-self c site panel kept history h run =
    let before = befallen history in
    let done = applied site kept before in
    let told = told_by_frames site kept done panel history in
    c.word.ensures site kept panel done (hold_turns site kept done told panel before) h.parts.holds
    ∙ word_by_told site kept done told panel before h.valid h.parts.member run
    ∙ word_handed site kept done panel history before
    ∙ sym (word_now site kept panel history)
    ∙ sym (own_shown site panel kept history c.args.source (c.if-source-self.true ∙ h.own))

pub returns-else-source-self : goal.returns-else-source-self
returns-else-source-self c site panel kept history h run =
    let apart : c.args.source ≢ panel = λ e. c.if-source-self.false (e ∙ sym h.own) in
    c.word-else-source-self.ensures.kept site.panels panel (arrived site kept (applied site kept (befallen history)) panel history) h.words
    ∙ other_kept site panel kept history c.args.source apart
    ∙ sym (other_shown site panel kept history c.args.source apart)
