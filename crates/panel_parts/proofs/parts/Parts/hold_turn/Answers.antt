use Rattle.std.proofs.Common.{◌∙◌, ap}
use Rattle.panel_rules.specs.Faults.{is_unconfirmed, outside_with, silent_panels}
use Rattle.panel_rules.specs.Moments.{tick_of}
use Rattle.panel_rules.specs.Outputs.{outputs_where}
use Rattle.hold_calls.specs.Turns.{hold_turns}
use Rattle.panel_parts.proofs.Holds.{after_hold}
use Rattle.panel_parts.proofs.parts.Parts.hold_turn.Goals as goal

pub returns-clause-turn : goal.returns-clause-turn
returns-clause-turn c site kept done told panel before h past now run silent links =
    let late = outputs_where site panel (λ output. is_unconfirmed site told.facts kept done output before) in
    after_hold site kept done told panel before c.args.self.now c.turn_and_compare.new.self c.turn_and_compare.new.findings c.outside-outside.result c.args.now.0 h past now run
    (c.outside-outside.ensures site kept done told panel before h run.0
    ∙ ap (λ mask. outside_with site panel before mask c.args.links late) silent
    ∙ ap (λ mask. outside_with site panel before (silent_panels site (told.stamps before) (tick_of before)) mask late) links)
    c.turn_and_compare.ensures.lane (c.turn_and_compare.ensures.stands site kept panel done (hold_turns site kept done told panel before))
