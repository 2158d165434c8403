use Rattle.std.proofs.Common.{◌∙◌, sym}
use Rattle.hold_calls.specs.Turns.{ring_turns}
use Rattle.hold_calls.proofs.WordsHeld.{word_held}
use Rattle.panel_rules.specs.Run.{tells_fault}
use Rattle.panel_rules.specs.Words.{ring_calls}
use Rattle.panel_rules.proofs.RingWords.{kept_by_ring}
use Rattle.panel_parts.specs.Applied.{applied}
use Rattle.panel_core.proofs.Shows.{asked_member, asked_panel}
use Rattle.panel_core.proofs.WholeFaces.{kept_word_now, other_shown, own_shown, word_now}
use Rattle.panel_core.proofs.system.System.word_shown.Goals as goal

pub returns-then-source-panel : goal.returns-then-source-panel
returns-then-source-panel c site kept before h run =
    let panel = c.args.panel in
    let system = c.args.self.now in
    let done = applied site kept before in
    let stands = asked_panel site kept before system panel c.index.result.now c.requires.panel h c.index.ensures in
    c.word.ensures site kept panel done (ring_turns site kept done panel before) stands.holds
    ∙ word_held site kept done panel before h.valid stands.member run
    ∙ sym (word_now site kept before panel)
    ∙ sym (own_shown site kept before panel c.args.source c.if-source-panel.true)

pub returns-else-source-panel : goal.returns-else-source-panel
returns-else-source-panel c site kept before h run =
    let panel = c.args.panel in
    let source = c.args.source in
    let system = c.args.self.now in
    let done = applied site kept before in
    let told = tells_fault site kept done in
    let there = asked_member site kept before system panel c.requires.panel h in
    let from = asked_member site kept before system source c.requires.source h in
    c.word-else-source-panel.ensures.kept site.panels (ring_calls site kept done told before) h.ring
    ∙ kept_by_ring site kept done told before panel source h.valid.forms.panels.1 there from
    ∙ sym (kept_word_now site kept before panel source)
    ∙ sym (other_shown site kept before panel source c.if-source-panel.false)
